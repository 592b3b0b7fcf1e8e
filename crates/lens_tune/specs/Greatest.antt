-- The greatest plan that fits, and the least failover for which one does.
use Rattle.std.specs.Prelude.{◌≡◌, ℕ, ◌≤◌, true, Option, Some, None}
use Rattle.lens_margin.specs.Laws.{IsLeast}
use Rattle.lens_tune.specs.declared.plan.Plan.{Plan}
use Rattle.lens_tune.specs.declared.wish.Wish.{Wish}
use Rattle.lens_tune.specs.Plans.{IsPlan, fits}

-- p has the longer lease; or the same, and the longer retry period; or both the same, and a renew deadline that isn't shorter
abbrev pub IsGreater : Plan → Plan → Type 0
IsGreater p q =
    (q.lease_seconds ≤ p.lease_seconds)
    × (q.lease_seconds ≡ p.lease_seconds → q.retry_tenths ≤ p.retry_tenths)
    × (q.lease_seconds ≡ p.lease_seconds → q.retry_tenths ≡ p.retry_tenths → q.renew_tenths ≤ p.renew_tenths)

pub record IsGreatest (w : Wish) (p : Plan) : Type 0 where
  pub plan : IsPlan w p
  pub holds : fits w p ≡ true
  pub greatest : (q : Plan) → IsPlan w q → fits w q ≡ true → IsGreater p q

-- the greatest plan that fits, or none where none does
abbrev pub IsGreatestPlan : Wish → Option Plan → Type 0
IsGreatestPlan w (Some p) = IsGreatest w p
IsGreatestPlan w None = (q : Plan) → IsPlan w q → ¬ (fits w q ≡ true)

abbrev pub within : ℕ → Wish → Wish
within millis w = record w { failover_millis = millis }

-- some plan fits
abbrev pub HasPlan : Wish → Type 0
HasPlan w = (p : Plan) × IsPlan w p × (fits w p ≡ true)

-- the least failover, in milliseconds, for which some plan fits, or none where there is no such failover
abbrev pub IsLeastFailover : Wish → Option ℕ → Type 0
IsLeastFailover w (Some least) = IsLeast (λ millis. HasPlan (within millis w)) least
IsLeastFailover w None = (millis : ℕ) → ¬ (HasPlan (within millis w))
