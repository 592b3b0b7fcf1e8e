-- Readings of a clock.
use Rattle.std.proofs.Common.{◌≡◌, ℕ, zero, suc, ◌+◌, ◌-◌, ◌*◌, ◌<◌, ◌≤◌, refl, subst, arith, add-zero, add-suc}
use Rattle.std.proofs.Math.Nat.{mul-le-mul_left}
use Rattle.skew_clock.specs.Clocking.{Clocking, reading, rate_at}

pub reading-zero : (c : Clocking) → reading c 0 ≡ 0
unfolding reading
reading-zero c = refl

pub reading-suc : (c : Clocking) (k : ℕ) → reading c (suc k) ≡ reading c k + c.beat_micros * rate_at c.sets k
unfolding reading
reading-suc c k = refl

-- clocks with the same rates at all beats before k read the same at k
pub reading-same : (c d : Clocking) (k : ℕ) → c.beat_micros ≡ d.beat_micros → ((j : ℕ) → j < k → rate_at c.sets j ≡ rate_at d.sets j) → reading c k ≡ reading d k
unfolding reading
reading-same c d zero beats rates = refl
reading-same c d (suc k) beats rates =
    let before = reading-same c d k beats (λ j below. rates j (omega arith)) in
    let now : rate_at c.sets k ≡ rate_at d.sets k = rates k (omega arith) in
    cc (before, now, beats)

reading-later : (c : Clocking) (k n : ℕ) → reading c k ≤ reading c (k + n)
reading-later c k zero = rw add-zero (omega arith)
reading-later c k (suc n) = rw (add-suc, reading-suc c (k + n)) (omega (arith, reading-later c k n))

-- a clock never goes back
pub reading-monotone : (c : Clocking) (j k : ℕ) → j ≤ k → reading c j ≤ reading c k
reading-monotone c j k below =
    let same : j + (k - j) ≡ k = omega arith in
    subst (λ n. reading c j ≤ reading c n) same (reading-later c j (k - j))

-- over beats at one rate a clock runs evenly
pub reading-even : (c : Clocking) (from n ppm : ℕ) → ((j : ℕ) → from ≤ j → j < from + n → rate_at c.sets j ≡ ppm) → reading c (from + n) ≡ reading c from + n * (c.beat_micros * ppm)
reading-even c from zero ppm rates = rw add-zero (omega arith)
reading-even c from (suc n) ppm rates =
    let before = reading-even c from n ppm (λ j later below. rates j later (omega arith)) in
    let here : rate_at c.sets (from + n) ≡ ppm = rates (from + n) (omega arith) (omega arith) in
    rw (add-suc, reading-suc c (from + n), here) (omega (arith, before))

-- no reading is more than that of the greatest rate
pub reading-bound : (c : Clocking) (k most : ℕ) → ((j : ℕ) → rate_at c.sets j ≤ most) → reading c k ≤ k * (c.beat_micros * most)
reading-bound c zero most rates = rw (reading-zero c) (omega arith)
reading-bound c (suc k) most rates =
    let before = reading-bound c k most rates in
    let here = mul-le-mul_left c.beat_micros (rates k) in
    rw (reading-suc c k) (omega (arith, before, here))
