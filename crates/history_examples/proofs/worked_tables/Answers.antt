use Rattle.history_examples.proofs.Tables as worked
use Rattle.history_examples.proofs.worked_tables.Goals as goal

pub returns-clause-states_by_counts : goal.returns-clause-states_by_counts
returns-clause-states_by_counts c = worked.states_by_counts

pub returns-clause-rates_by_policy : goal.returns-clause-rates_by_policy
returns-clause-rates_by_policy c = worked.rates_by_policy

pub returns-clause-due_by_tolerations : goal.returns-clause-due_by_tolerations
returns-clause-due_by_tolerations c = worked.due_by_tolerations

pub returns-clause-no_schedule_is_never_due : goal.returns-clause-no_schedule_is_never_due
returns-clause-no_schedule_is_never_due c = worked.no_schedule_is_never_due
