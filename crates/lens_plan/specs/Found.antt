-- What is found for a wish.
use Rattle.std.specs.Int.{div_ceil}
use Rattle.std.specs.Prelude.{ℕ, ◌+◌, ◌-◌, ◌*◌, nat_lt, Option, Some, None, if◌then◌else◌}
use Rattle.lens_tune.specs.declared.plan.Plan.{Plan}
use Rattle.lens_tune.specs.declared.wish.Timeout.{Timeout}
use Rattle.lens_tune.specs.declared.wish.Timeout.TheVariants as timeout
use Rattle.lens_tune.specs.declared.wish.Wish.{Wish}
use Rattle.lens_tune.specs.Greatest.{IsGreatest, IsGreatestPlan, IsLeastFailover}
use Rattle.lens_tune.specs.Plans.{bound}
use Rattle.lens_tune.specs.Wishes.{far_of}
use Rattle.lens_plan.specs.declared.found.Found.{Found}
use Rattle.lens_plan.specs.declared.found.Found.TheVariants.{Fitting, Later, Never}

-- of the plan that is found, if one is
abbrev pub ForPlan : Found → (Plan → Type 0) → Type 0
ForPlan (Fitting p) P = P p
ForPlan (Later least) P = Unit {0}
ForPlan Never P = Unit {0}

abbrev pub later_of : Found → Option ℕ
later_of (Fitting p) = None
later_of (Later least) = Some least
later_of Never = None

abbrev pub plan_of : Found → Option Plan
plan_of (Fitting p) = Some p
plan_of (Later least) = None
plan_of Never = None

-- the least failover for which a plan fits, where none does
abbrev pub IsLater : Wish → Found → Type 0
IsLater w (Fitting p) = ⊥
IsLater w (Later least) = IsLeastFailover w (Some least)
IsLater w Never = IsLeastFailover w None

-- the greatest plan that fits; or none does, with the least failover for which one would
abbrev pub IsFound : Wish → Found → Type 0
IsFound w (Fitting p) = IsGreatest w p
IsFound w (Later least) = IsGreatestPlan w None × IsLater w (Later least)
IsFound w Never = IsGreatestPlan w None × IsLater w Never

-- what the bound of a crash leaves of the failover, in milliseconds
abbrev pub spare : Wish → Plan → ℕ
spare w p = w.failover_millis - bound w p

-- two ways of a message in milliseconds, as the fastest clock counts them, rounded up
abbrev pub two_ways : Wish → ℕ
two_ways w = div_ceil (2 * far_of w * w.beat_millis * (1000000 + w.skew_ppm)) 1000000

abbrev pub short_by : ℕ → Timeout → Option ℕ
short_by ways timeout.RenewDeadline = None
short_by ways timeout.Half = None
short_by ways (timeout.Fixed millis) = if nat_lt millis ways then Some millis else None

-- a call timeout that is given in milliseconds and is shorter than that: then no reply is sure to come in time
abbrev pub short_timeout : Wish → Option ℕ
short_timeout w = short_by (two_ways w) w.timeout
