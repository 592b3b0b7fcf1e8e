use Rattle.history_examples.proofs.Judgements as worked
use Rattle.history_examples.proofs.worked_judgements.Goals as goal

pub returns-clause-pushed_again : goal.returns-clause-pushed_again
returns-clause-pushed_again c = worked.pushed_again

pub returns-clause-pushed_once : goal.returns-clause-pushed_once
returns-clause-pushed_once c = worked.pushed_once

pub returns-clause-push_left_behind : goal.returns-clause-push_left_behind
returns-clause-push_left_behind c = worked.push_left_behind

pub returns-clause-mode_and_full_bucket : goal.returns-clause-mode_and_full_bucket
returns-clause-mode_and_full_bucket c = worked.mode_and_full_bucket

pub returns-clause-stripped_at_first_sight : goal.returns-clause-stripped_at_first_sight
returns-clause-stripped_at_first_sight c = worked.stripped_at_first_sight

pub returns-clause-probe_of_the_record : goal.returns-clause-probe_of_the_record
returns-clause-probe_of_the_record c = worked.probe_of_the_record

pub returns-clause-upstream_failover : goal.returns-clause-upstream_failover
returns-clause-upstream_failover c = worked.upstream_failover
