use Rattle.history_examples.proofs.Takeovers as worked
use Rattle.history_examples.proofs.worked_takeovers.Goals as goal

pub returns-clause-own_record_after_lost_reply : goal.returns-clause-own_record_after_lost_reply
returns-clause-own_record_after_lost_reply c = worked.own_record_after_lost_reply

pub returns-clause-takeover_after_crash : goal.returns-clause-takeover_after_crash
returns-clause-takeover_after_crash c = worked.takeover_after_crash

pub returns-clause-duration_in_the_record_counts : goal.returns-clause-duration_in_the_record_counts
returns-clause-duration_in_the_record_counts c = worked.duration_in_the_record_counts

pub returns-clause-create_outlives_its_sender : goal.returns-clause-create_outlives_its_sender
returns-clause-create_outlives_its_sender c = worked.create_outlives_its_sender

pub returns-clause-slow_reply_counts : goal.returns-clause-slow_reply_counts
returns-clause-slow_reply_counts c = worked.slow_reply_counts
