-- The two tables, shown by computation.
use Rattle.std.specs.Prelude.{refl}
use Rattle.history_examples.specs.Tables.{StatesByCounts, RatesByPolicy, DueByTolerations, NoScheduleIsNeverDue}

pub states_by_counts : StatesByCounts
states_by_counts = refl

pub rates_by_policy : RatesByPolicy
rates_by_policy = refl

pub due_by_tolerations : DueByTolerations
due_by_tolerations = refl

pub no_schedule_is_never_due : NoScheduleIsNeverDue
no_schedule_is_never_due = refl
