-- What the search asks, part by part: what only a longer renew deadline can break, what only a shorter one can, and the greatest of each.
use Rattle.std.specs.Prelude.{◌≡◌, ℕ, ◌+◌, ◌-◌, ◌*◌, ◌/◌, ◌&&◌, ◌≤◌, not, nat_le, nat_lt, min, Bool, true, Option, Some, None, if◌then◌else◌}
use Rattle.lens_bounds.specs.Elections.{replies_count, renews, outlasts}
use Rattle.lens_margin.specs.Laws.{IsLeast}
use Rattle.lens_tune.specs.declared.first.Question.{Question}
use Rattle.lens_tune.specs.declared.first.Question.TheVariants.{TooLong, Enough, Outlasting}
use Rattle.lens_tune.specs.declared.plan.Plan.{Plan}
use Rattle.lens_tune.specs.declared.wish.Wish.{Wish}
use Rattle.lens_tune.specs.Greatest.{IsGreater}
use Rattle.lens_tune.specs.Plans.{IsPlan, safe, fits, holds}
use Rattle.lens_tune.specs.Wishes.{renew_millis, retry_millis, timeout_of, far_of, calm_of, controller_of, stall_beats}

-- the ranges of plans that are asked about
pub record IsSmall (p : Plan) : Type 0 where
  pub lease : p.lease_seconds ≤ 86400
  pub renew : p.renew_tenths ≤ 864000
  pub retry : p.retry_tenths ≤ 864000

-- the renew deadline is long enough
abbrev pub is_enough : Wish → Plan → Bool
is_enough w p =
    nat_lt (6 * retry_millis p) (5 * renew_millis p)
    && replies_count (calm_of w p) (controller_of w p)
    && renews (calm_of w p) (controller_of w p)

-- and the lease outlasts it and all else
abbrev pub is_outlasted : Wish → Plan → Bool
is_outlasted w p =
    nat_lt (renew_millis p) (p.lease_seconds * 1000)
    && nat_le (timeout_of w p) 600000
    && safe w p
    && outlasts (calm_of w p) (controller_of w p)

abbrev pub plan : ℕ → ℕ → ℕ → Plan
plan lease retry renew = record { lease_seconds = lease; renew_tenths = renew; retry_tenths = retry }

-- what is so from some number on
abbrev pub asked : Wish → Question → ℕ → Bool
asked w (TooLong lease retry) n = not (is_outlasted w (plan lease retry n))
asked w (Enough retry) n = is_enough w (plan 0 retry n)
asked w (Outlasting retry renew) n = is_outlasted w (plan n retry renew)

-- the numbers of which it is asked
abbrev pub most : Question → ℕ
most (TooLong lease retry) = 864000
most (Enough retry) = 864000
most (Outlasting retry renew) = 86400

abbrev pub IsSmallQuestion : Question → Type 0
IsSmallQuestion (TooLong lease retry) = (lease ≤ 86400) × (retry ≤ 864000)
IsSmallQuestion (Enough retry) = retry ≤ 864000
IsSmallQuestion (Outlasting retry renew) = (retry ≤ 864000) × (renew ≤ 864000)

-- the beats that a pause for a whole stall can add
abbrev pub pauses : Wish → ℕ
pauses w = if nat_lt 0 (stall_beats w) then stall_beats w + 1 else 0

-- the milliseconds of a failover that are left for leases and waits, beside six ways of a message
abbrev pub room : Wish → ℕ → ℕ
room w failover = failover + 2 * w.beat_millis - 6 * far_of w * w.beat_millis

-- the longest retry period beside a lease that such a failover has room for
abbrev pub longest_retry : Wish → ℕ → ℕ → ℕ
longest_retry w failover lease = min ((room w failover - lease * 1000) / w.wait_percent) 864000

-- the least renew deadline that is long enough
abbrev pub IsLeastRenew : Wish → ℕ → Option ℕ → Type 0
IsLeastRenew w retry (Some renew) = (renew ≤ 864000) × IsLeast (λ n. is_enough w (plan 0 retry n) ≡ true) renew
IsLeastRenew w retry None = (n : ℕ) → n ≤ 864000 → ¬ (is_enough w (plan 0 retry n) ≡ true)

-- the least lease of a plan that holds with this retry period or a longer one
abbrev pub IsLeastLease : Wish → ℕ → Option ℕ → Type 0
IsLeastLease w retry (Some lease) =
    (lease ≤ 86400)
    × ((renew : ℕ) × (holds w (plan lease retry renew) ≡ true))
    × ((q : Plan) → q.lease_seconds ≤ 86400 → retry ≤ q.retry_tenths → holds w q ≡ true → lease ≤ q.lease_seconds)
IsLeastLease w retry None = (q : Plan) → q.lease_seconds ≤ 86400 → retry ≤ q.retry_tenths → ¬ (holds w q ≡ true)

-- the greatest plan that fits of those with this lease and retry period
abbrev pub IsGreatestWith : Wish → ℕ → ℕ → Option Plan → Type 0
IsGreatestWith w lease retry (Some p) =
    (p.lease_seconds ≡ lease)
    × (p.retry_tenths ≡ retry)
    × (fits w p ≡ true)
    × ((n : ℕ) → fits w (plan lease retry n) ≡ true → n ≤ p.renew_tenths)
IsGreatestWith w lease retry None = (n : ℕ) → ¬ (fits w (plan lease retry n) ≡ true)

-- and of those with this lease
abbrev pub IsGreatestOf : Wish → ℕ → Option Plan → Type 0
IsGreatestOf w lease (Some p) =
    (p.lease_seconds ≡ lease) × IsPlan w p × (fits w p ≡ true) × ((q : Plan) → q.lease_seconds ≡ lease → IsPlan w q → fits w q ≡ true → IsGreater p q)
IsGreatestOf w lease None = (q : Plan) → q.lease_seconds ≡ lease → IsPlan w q → ¬ (fits w q ≡ true)
