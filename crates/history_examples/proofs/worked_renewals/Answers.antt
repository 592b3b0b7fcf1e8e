use Rattle.history_examples.proofs.Renewals as worked
use Rattle.history_examples.proofs.worked_renewals.Goals as goal

pub returns-clause-late_renewal_conflicts : goal.returns-clause-late_renewal_conflicts
returns-clause-late_renewal_conflicts c = worked.late_renewal_conflicts

pub returns-clause-deadline_ends_the_term : goal.returns-clause-deadline_ends_the_term
returns-clause-deadline_ends_the_term c = worked.deadline_ends_the_term

pub returns-clause-reply_at_the_timeout_counts : goal.returns-clause-reply_at_the_timeout_counts
returns-clause-reply_at_the_timeout_counts c = worked.reply_at_the_timeout_counts

pub returns-clause-reply_after_the_timeout_is_ignored : goal.returns-clause-reply_after_the_timeout_is_ignored
returns-clause-reply_after_the_timeout_is_ignored c = worked.reply_after_the_timeout_is_ignored

pub returns-clause-reply_to_another_call_is_ignored : goal.returns-clause-reply_to_another_call_is_ignored
returns-clause-reply_to_another_call_is_ignored c = worked.reply_to_another_call_is_ignored

pub returns-clause-success_at_the_deadline : goal.returns-clause-success_at_the_deadline
returns-clause-success_at_the_deadline c = worked.success_at_the_deadline

pub returns-clause-crash_cancels_a_restart : goal.returns-clause-crash_cancels_a_restart
returns-clause-crash_cancels_a_restart c = worked.crash_cancels_a_restart

pub returns-clause-fast_renewal : goal.returns-clause-fast_renewal
returns-clause-fast_renewal c = worked.fast_renewal

pub returns-clause-fast_renewal_falls_back : goal.returns-clause-fast_renewal_falls_back
returns-clause-fast_renewal_falls_back c = worked.fast_renewal_falls_back

pub returns-clause-stop_is_followed_by_release : goal.returns-clause-stop_is_followed_by_release
returns-clause-stop_is_followed_by_release c = worked.stop_is_followed_by_release

pub returns-clause-release_before_a_loss : goal.returns-clause-release_before_a_loss
returns-clause-release_before_a_loss c = worked.release_before_a_loss

pub returns-clause-release_after_a_loss : goal.returns-clause-release_after_a_loss
returns-clause-release_after_a_loss c = worked.release_after_a_loss

pub returns-clause-renewal_outruns_release : goal.returns-clause-renewal_outruns_release
returns-clause-renewal_outruns_release c = worked.renewal_outruns_release
