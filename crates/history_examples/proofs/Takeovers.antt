-- Takeovers. Each is shown by computation.
use Rattle.std.specs.Prelude.{refl}
use Rattle.kube_objects.specs.Document.{of_seconds, of_millis}
use Rattle.history_examples.specs.Takeovers.{OwnRecordAfterLostReply, TakeoverAfterCrash, DurationInTheRecordCounts, CreateOutlivesItsSender, SlowReplyCounts}

pub own_record_after_lost_reply : OwnRecordAfterLostReply
unfolding of_seconds of_millis
own_record_after_lost_reply = refl

pub takeover_after_crash : TakeoverAfterCrash
unfolding of_seconds of_millis
takeover_after_crash = refl

pub duration_in_the_record_counts : DurationInTheRecordCounts
unfolding of_seconds of_millis
duration_in_the_record_counts = refl

pub create_outlives_its_sender : CreateOutlivesItsSender
unfolding of_seconds of_millis
create_outlives_its_sender = refl

pub slow_reply_counts : SlowReplyCounts
unfolding of_seconds of_millis
slow_reply_counts = refl
