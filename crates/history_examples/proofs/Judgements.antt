-- Judgement at passes, queues that hold a node many times, full buckets, first sight and the record's probe. Each is shown by computation.
use Rattle.std.specs.Prelude.{refl}
use Rattle.kube_objects.specs.Document.{of_seconds, of_millis}
use Rattle.kube_objects.specs.Tokens.{token_size}
use Rattle.history_examples.specs.Judgements.{PushedAgain, PushedOnce, PushLeftBehind, ModeAndFullBucket, StrippedAtFirstSight, ProbeOfTheRecord, UpstreamFailover}

pub pushed_again : PushedAgain
unfolding of_seconds of_millis token_size
pushed_again = (refl, refl)

pub pushed_once : PushedOnce
unfolding of_seconds of_millis token_size
pushed_once = (refl, refl)

pub push_left_behind : PushLeftBehind
unfolding of_seconds of_millis token_size
push_left_behind = (refl, refl)

pub mode_and_full_bucket : ModeAndFullBucket
unfolding of_seconds of_millis token_size
mode_and_full_bucket = (refl, refl)

pub stripped_at_first_sight : StrippedAtFirstSight
unfolding of_seconds of_millis token_size
stripped_at_first_sight = (refl, refl)

pub probe_of_the_record : ProbeOfTheRecord
unfolding of_seconds of_millis token_size
probe_of_the_record = (refl, refl)

pub upstream_failover : UpstreamFailover
unfolding of_seconds of_millis token_size
upstream_failover = (refl, refl)
