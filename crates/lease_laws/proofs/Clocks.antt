-- How far a clock goes.
use Rattle.std.proofs.Common.{◌≡◌, ◌≤◌, ℕ, zero, suc, ◌+◌, ◌-◌, ◌*◌, ap, subst, arith}
use Rattle.std.proofs.Math.Nat.{mul-le-mul_left}
use Rattle.kube_objects.specs.Clocks.{local, rate}
use Rattle.kube_objects.specs.Document.{Doc, beat_micros, end_beat}
use Rattle.kube_objects.proofs.Clocks.{local_next}

local_most : (doc : Doc) (high p : ℕ) → ((k : ℕ) → k ≤ end_beat doc → rate doc p k ≤ high) → (o n : ℕ) → o + n ≤ end_beat doc + 1 → local doc p (o + n) ≤ local doc p o + n * (beat_micros doc * high)
local_most doc high p greatest o zero within = let e : o + 0 ≡ o = omega arith in omega (arith, ap (local doc p) e)
local_most doc high p greatest o (suc n) within =
    omega (arith, local_next doc p o n, local_most doc high p greatest o n (omega (arith, within)), mul-le-mul_left (beat_micros doc) (greatest (o + n) (omega (arith, within))))

local_least : (doc : Doc) (low : ℕ) (p : ℕ) → ((k : ℕ) → k ≤ end_beat doc → low ≤ rate doc p k) → (o n : ℕ) → o + n ≤ end_beat doc + 1 → local doc p o + n * (beat_micros doc * low) ≤ local doc p (o + n)
local_least doc low p least o zero within = let e : o + 0 ≡ o = omega arith in omega (arith, ap (local doc p) e)
local_least doc low p least o (suc n) within =
    omega (arith, local_next doc p o n, local_least doc low p least o n (omega (arith, within)), mul-le-mul_left (beat_micros doc) (least (o + n) (omega (arith, within))))

pub local_at_most : (doc : Doc) (high p : ℕ) → ((k : ℕ) → k ≤ end_beat doc → rate doc p k ≤ high) → (o k : ℕ) → o ≤ k → k ≤ end_beat doc → local doc p k ≤ local doc p o + (k - o) * (beat_micros doc * high)
local_at_most doc high p greatest o k le end =
    let e : o + (k - o) ≡ k = omega (arith, le) in
    subst (λ n. local doc p n ≤ local doc p o + (k - o) * (beat_micros doc * high)) e (local_most doc high p greatest o (k - o) (omega (arith, le, end)))

pub local_at_least : (doc : Doc) (low : ℕ) (p : ℕ) → ((k : ℕ) → k ≤ end_beat doc → low ≤ rate doc p k) → (o k : ℕ) → o ≤ k → k ≤ end_beat doc → local doc p o + (k - o) * (beat_micros doc * low) ≤ local doc p k
local_at_least doc low p least o k le end =
    let e : o + (k - o) ≡ k = omega (arith, le) in
    subst (λ n. local doc p o + (k - o) * (beat_micros doc * low) ≤ local doc p n) e (local_least doc low p least o (k - o) (omega (arith, le, end)))
