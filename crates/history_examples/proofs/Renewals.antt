-- Renewals, ends and releases. Each is shown by computation.
use Rattle.std.specs.Prelude.{refl}
use Rattle.kube_objects.specs.Document.{of_seconds, of_millis}
use Rattle.history_examples.specs.Renewals.{LateRenewalConflicts, DeadlineEndsTheTerm, ReplyAtTheTimeoutCounts, ReplyAfterTheTimeoutIsIgnored, ReplyToAnotherCallIsIgnored, SuccessAtTheDeadline, CrashCancelsARestart, FastRenewal, FastRenewalFallsBack, StopIsFollowedByRelease, ReleaseBeforeALoss, ReleaseAfterALoss, RenewalOutrunsRelease}

pub late_renewal_conflicts : LateRenewalConflicts
unfolding of_seconds of_millis
late_renewal_conflicts = refl

pub deadline_ends_the_term : DeadlineEndsTheTerm
unfolding of_seconds of_millis
deadline_ends_the_term = refl

pub reply_at_the_timeout_counts : ReplyAtTheTimeoutCounts
unfolding of_seconds of_millis
reply_at_the_timeout_counts = refl

pub reply_after_the_timeout_is_ignored : ReplyAfterTheTimeoutIsIgnored
unfolding of_seconds of_millis
reply_after_the_timeout_is_ignored = refl

pub reply_to_another_call_is_ignored : ReplyToAnotherCallIsIgnored
unfolding of_seconds of_millis
reply_to_another_call_is_ignored = refl

pub success_at_the_deadline : SuccessAtTheDeadline
unfolding of_seconds of_millis
success_at_the_deadline = refl

pub crash_cancels_a_restart : CrashCancelsARestart
unfolding of_seconds of_millis
crash_cancels_a_restart = refl

pub fast_renewal : FastRenewal
unfolding of_seconds of_millis
fast_renewal = refl

pub fast_renewal_falls_back : FastRenewalFallsBack
unfolding of_seconds of_millis
fast_renewal_falls_back = refl

pub stop_is_followed_by_release : StopIsFollowedByRelease
unfolding of_seconds of_millis
stop_is_followed_by_release = refl

pub release_before_a_loss : ReleaseBeforeALoss
unfolding of_seconds of_millis
release_before_a_loss = refl

pub release_after_a_loss : ReleaseAfterALoss
unfolding of_seconds of_millis
release_after_a_loss = refl

pub renewal_outruns_release : RenewalOutrunsRelease
unfolding of_seconds of_millis
renewal_outruns_release = refl
