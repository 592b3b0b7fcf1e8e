use Rattle.history_examples.proofs.Attempts as worked
use Rattle.history_examples.proofs.worked_attempts.Goals as goal

pub returns-clause-waits_in_turn : goal.returns-clause-waits_in_turn
returns-clause-waits_in_turn c = worked.waits_in_turn

pub returns-clause-grid_of_retries : goal.returns-clause-grid_of_retries
returns-clause-grid_of_retries c = worked.grid_of_retries

pub returns-clause-retries_after_failures : goal.returns-clause-retries_after_failures
returns-clause-retries_after_failures c = worked.retries_after_failures

pub returns-clause-ticks_of_retries : goal.returns-clause-ticks_of_retries
returns-clause-ticks_of_retries c = worked.ticks_of_retries

pub returns-clause-grid_of_fast_retries : goal.returns-clause-grid_of_fast_retries
returns-clause-grid_of_fast_retries c = worked.grid_of_fast_retries

pub returns-clause-own_duration : goal.returns-clause-own_duration
returns-clause-own_duration c = worked.own_duration

pub returns-clause-shortest_duration_counts : goal.returns-clause-shortest_duration_counts
returns-clause-shortest_duration_counts c = worked.shortest_duration_counts
