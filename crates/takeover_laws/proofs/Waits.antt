-- Each wait of a candidate lies between the shortest and the longest; and how a respected record blocks.
use Rattle.std.proofs.Common.{◌≡◌, ◌≤◌, ◌<◌, ℕ, zero, suc, ◌+◌, ◌*◌, ◌/◌, ◌%◌, ◌&&◌, nat_lt, Bool, true, false, List, [], ◌∷◌, length, slice_get, Some, min, max, refl, ap, ◌∙◌, arith}
use Rattle.std.proofs.Math.Nat.{mul-le-mul_left, mod-lt}
use Rattle.kube_objects.specs.declared.lease.Lease.{Lease}
use Rattle.kube_objects.specs.declared.rules.RespectRule.{RespectRule}
use Rattle.kube_objects.specs.declared.rules.RespectRule.TheVariants.{Record, Own}
use Rattle.kube_objects.specs.Clocks.{local}
use Rattle.kube_objects.specs.Document.{Doc, of_seconds, lease_seconds, lease_duration, retry_period, waits_of}
use Rattle.kube_objects.specs.Elector.{failures, retry_at, respected, is_blocked}
use Rattle.kube_objects.specs.Entry.{Entry, Identity}
use Rattle.kube_objects.specs.Identities.{is_other}
use Rattle.kube_objects.specs.Newest.{or_else, or_zero}
use Rattle.history_laws.proofs.Plainly.{true_is}
use Rattle.lease_laws.specs.Respects.{respected_time}
use Rattle.takeover_laws.specs.Waits.{greatest_from, least_from, greatest_of, least_of, longest_wait, shortest_wait, WaitsAreBetween, OwnWaitsAreWhole, blocked_under, blocked_for}

-- ---- in thousandths

pub greatest_rises : (most : ℕ) (ws : List ℕ) → most ≤ greatest_from most ws
greatest_rises most [] = omega arith
greatest_rises most (w ∷ ws) = omega (arith, greatest_rises (max w most) ws)

pub least_falls : (least : ℕ) (ws : List ℕ) → least_from least ws ≤ least
least_falls least [] = omega arith
least_falls least (w ∷ ws) = omega (arith, least_falls (min w least) ws)

abbrev Between : ℕ → ℕ → ℕ → Type 0
Between least most w = (least ≤ w) × (w ≤ most)

each_from : (least most : ℕ) (ws : List ℕ) (i : ℕ) → i < length ws → Between (least_from least ws) (greatest_from most ws) (or_else 1000 (slice_get ws i))
each_from least most [] i lt = absurd (omega (arith, lt))
each_from least most (w ∷ ws) zero lt = (omega (arith, least_falls (min w least) ws), omega (arith, greatest_rises (max w most) ws))
each_from least most (w ∷ ws) (suc i) lt = each_from (min w least) (max w most) ws i (omega (arith, lt))

each_of : (ws : List ℕ) (i : ℕ) → i < length ws → Between (least_of ws) (greatest_of ws) (or_else 1000 (slice_get ws i))
each_of [] i lt = absurd (omega (arith, lt))
each_of (w ∷ ws) zero lt = (least_falls w ws, greatest_rises w ws)
each_of (w ∷ ws) (suc i) lt = each_from w w ws i (omega (arith, lt))

in_turn : (ws : List ℕ) (n : ℕ) → Between (least_of ws) (greatest_of ws) (or_else 1000 (slice_get ws (n % length ws)))
in_turn [] n = (omega arith, omega arith)
in_turn (w ∷ ws) n = each_of (w ∷ ws) (n % length (w ∷ ws)) (mod-lt n (omega arith))

pub shares : (period a b : ℕ) → a ≤ b → period * a / 1000 ≤ period * b / 1000
shares period a b le = omega (arith, mul-le-mul_left period le)

-- ---- of a controller

pub waits_are_between : WaitsAreBetween
waits_are_between doc p failures =
    let ws = waits_of doc p in
    let w = or_else 1000 (slice_get ws (failures % length ws)) in
    let b : Between (least_of ws) (greatest_of ws) w = in_turn ws failures in
    (shares (retry_period doc p) (least_of ws) w b.0, shares (retry_period doc p) w (greatest_of ws) b.1)

whole : (period : ℕ) → period * 1000 / 1000 ≡ period
whole period = omega arith

pub own_waits_are_whole : OwnWaitsAreWhole
own_waits_are_whole doc p own =
    (ap (λ ws. retry_period doc p * greatest_of ws / 1000) own ∙ whole (retry_period doc p), ap (λ ws. retry_period doc p * least_of ws / 1000) own ∙ whole (retry_period doc p))

-- whose candidates wait has a retry period
pub some_period : (doc : Doc) (p : ℕ) → 1 ≤ longest_wait doc p → 1 ≤ retry_period doc p
some_period doc p some = by_period (retry_period doc p) (greatest_of (waits_of doc p)) some
  where
    by_period : (period most : ℕ) → 1 ≤ period * most / 1000 → 1 ≤ period
    by_period zero most some = absurd (omega (arith, some))
    by_period (suc period) most some = omega arith

pub shortest_least : (doc : Doc) (p : ℕ) → shortest_wait doc p ≤ longest_wait doc p
shortest_least doc p = let b = waits_are_between doc p 0 in omega (arith, b.0, b.1)

-- a candidate tries again when one of its waits is over
pub retry_least : (doc : Doc) (led : Bool) → led ≡ false → (q : Identity) (e : Entry) (h : List Entry) → local doc q.process e.beat + shortest_wait doc q.process ≤ retry_at led doc q e h
retry_least doc true is q e h = absurd (true_is is)
retry_least doc false is q e h = omega (arith, (waits_are_between doc q.process (failures doc q h)).0)

pub retry_most : (doc : Doc) (led : Bool) → led ≡ false → (q : Identity) (e : Entry) (h : List Entry) → retry_at led doc q e h ≤ local doc q.process e.beat + longest_wait doc q.process
retry_most doc true is q e h = absurd (true_is is)
retry_most doc false is q e h = omega (arith, (waits_are_between doc q.process (failures doc q h)).1)

-- ---- records

same_holder : (rule : RespectRule) (seconds : ℕ) (q : Identity) (lease : Lease) → is_other q (respected rule seconds lease).holder ≡ is_other q lease.holder
same_holder Record seconds q lease = refl
same_holder Own seconds q lease = refl

-- another's record blocks while the time isn't over for which it is respected
pub blocked_is : (doc : Doc) (p : ℕ) (q : Identity) (now seen : ℕ) (lease : Lease)
    → is_blocked q now seen (respected doc.settings.rules.respect (lease_seconds doc p) lease) ≡ (is_other q lease.holder && nat_lt now (seen + respected_time doc p lease))
blocked_is doc p q now seen lease = ap (λ b. b && nat_lt now (seen + respected_time doc p lease)) (same_holder doc.settings.rules.respect (lease_seconds doc p) q lease)

-- a record with a controller's own duration
pub blocked_time : (doc : Doc) (p q : ℕ) (lease : Lease) → lease.duration ≡ Some (lease_seconds doc q) → respected_time doc p lease ≡ blocked_for doc p q
blocked_time doc p q lease is = by_rule doc.settings.rules.respect
  where
    by_rule : (rule : RespectRule) → of_seconds (or_zero (respected rule (lease_seconds doc p) lease).duration) ≡ blocked_under rule doc p q
    by_rule Record = ap (λ o. of_seconds (or_zero o)) is
    by_rule Own = refl

-- and one's own blocks for one's own
pub own_blocked : (doc : Doc) (q : ℕ) → blocked_for doc q q ≡ lease_duration doc q
own_blocked doc q = by_rule doc.settings.rules.respect
  where
    by_rule : (rule : RespectRule) → blocked_under rule doc q q ≡ lease_duration doc q
    by_rule Record = refl
    by_rule Own = refl

-- where no lease duration is longer than a time, no record of theirs blocks for longer
pub blocked_most : (doc : Doc) (p q time : ℕ) → lease_duration doc p ≤ time → lease_duration doc q ≤ time → blocked_for doc p q ≤ time
blocked_most doc p q time own other = by_rule doc.settings.rules.respect
  where
    by_rule : (rule : RespectRule) → blocked_under rule doc p q ≤ time
    by_rule Record = other
    by_rule Own = own
