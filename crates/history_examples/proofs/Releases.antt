-- Releases at every end of a term. Each is shown by computation.
use Rattle.std.specs.Prelude.{refl}
use Rattle.kube_objects.specs.Document.{of_seconds, of_millis}
use Rattle.kube_objects.specs.Tokens.{token_size}
use Rattle.history_examples.specs.Releases.{StopAndLook, StopAndCheck, StopWithoutLook, RivalIsEmptied, OwnIsEmptied, LateEmptyingIsRefused, CrashInARelease, TwoActAfterAnEmptying, AnswerInTime, AnswerTooLate, CutOff, CutOffAndActing, CutOffAndStopped, NoRelease, OwnVersionIsRefused, CheckFindsAnother, PremiseCountsTheRelease, PremiseAsksForAnswers, PremiseCountsTwoPauses}

pub stop_and_look : StopAndLook
unfolding of_seconds of_millis token_size
stop_and_look = (refl, refl)

pub stop_and_check : StopAndCheck
unfolding of_seconds of_millis token_size
stop_and_check = (refl, refl)

pub stop_without_look : StopWithoutLook
unfolding of_seconds of_millis token_size
stop_without_look = (refl, refl)

pub rival_is_emptied : RivalIsEmptied
unfolding of_seconds of_millis token_size
rival_is_emptied = (refl, refl)

pub own_is_emptied : OwnIsEmptied
unfolding of_seconds of_millis token_size
own_is_emptied = (refl, refl)

pub late_emptying_is_refused : LateEmptyingIsRefused
unfolding of_seconds of_millis token_size
late_emptying_is_refused = (refl, refl)

pub crash_in_a_release : CrashInARelease
unfolding of_seconds of_millis token_size
crash_in_a_release = (refl, refl)

pub two_act_after_an_emptying : TwoActAfterAnEmptying
unfolding of_seconds of_millis token_size
two_act_after_an_emptying = (refl, refl)

pub answer_in_time : AnswerInTime
unfolding of_seconds of_millis token_size
answer_in_time = (refl, refl)

pub answer_too_late : AnswerTooLate
unfolding of_seconds of_millis token_size
answer_too_late = (refl, refl)

pub cut_off : CutOff
unfolding of_seconds of_millis token_size
cut_off = (refl, refl)

pub cut_off_and_acting : CutOffAndActing
unfolding of_seconds of_millis token_size
cut_off_and_acting = (refl, refl)

pub cut_off_and_stopped : CutOffAndStopped
unfolding of_seconds of_millis token_size
cut_off_and_stopped = (refl, refl)

pub no_release : NoRelease
unfolding of_seconds of_millis token_size
no_release = (refl, refl)

pub own_version_is_refused : OwnVersionIsRefused
unfolding of_seconds of_millis token_size
own_version_is_refused = (refl, refl)

pub check_finds_another : CheckFindsAnother
unfolding of_seconds of_millis token_size
check_finds_another = (refl, refl)

pub premise_counts_the_release : PremiseCountsTheRelease
unfolding of_seconds of_millis token_size
premise_counts_the_release = (refl, refl, refl, refl, refl, refl, refl)

pub premise_asks_for_answers : PremiseAsksForAnswers
unfolding of_seconds of_millis token_size
premise_asks_for_answers = (refl, refl, refl)

pub premise_counts_two_pauses : PremiseCountsTwoPauses
unfolding of_seconds of_millis token_size
premise_counts_two_pauses = (refl, refl, refl, refl)
