-- First elections. Each is shown by computation.
use Rattle.std.specs.Prelude.{refl}
use Rattle.kube_objects.specs.Document.{of_seconds, of_millis}
use Rattle.history_examples.specs.Elections.{FirstElection, DoubleSpeed, SecondCreateIsRefused, SecondTakeoverIsRefused, VersionsCountEveryWrite, StormInOneBeat, ReplyToAnOldIncarnation}

pub first_election : FirstElection
unfolding of_seconds of_millis
first_election = refl

pub double_speed : DoubleSpeed
unfolding of_seconds of_millis
double_speed = refl

pub second_create_is_refused : SecondCreateIsRefused
unfolding of_seconds of_millis
second_create_is_refused = refl

pub second_takeover_is_refused : SecondTakeoverIsRefused
unfolding of_seconds of_millis
second_takeover_is_refused = refl

pub versions_count_every_write : VersionsCountEveryWrite
unfolding of_seconds of_millis
versions_count_every_write = refl

pub storm_in_one_beat : StormInOneBeat
unfolding of_seconds of_millis
storm_in_one_beat = refl

pub reply_to_an_old_incarnation : ReplyToAnOldIncarnation
unfolding of_seconds of_millis
reply_to_an_old_incarnation = refl
