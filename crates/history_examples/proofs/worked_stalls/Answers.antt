use Rattle.history_examples.proofs.Stalls as worked
use Rattle.history_examples.proofs.worked_stalls.Goals as goal

pub returns-clause-failover_by_a_stall : goal.returns-clause-failover_by_a_stall
returns-clause-failover_by_a_stall c = worked.failover_by_a_stall

pub returns-clause-due_in_a_stall : goal.returns-clause-due_in_a_stall
returns-clause-due_in_a_stall c = worked.due_in_a_stall

pub returns-clause-stall_over_the_grace : goal.returns-clause-stall_over_the_grace
returns-clause-stall_over_the_grace c = worked.stall_over_the_grace

pub returns-clause-pass_at_work : goal.returns-clause-pass_at_work
returns-clause-pass_at_work c = worked.pass_at_work
