-- The first beat at which a clock reads at least something.
use Rattle.std.proofs.Common.{◌≡◌, ℕ, zero, suc, ◌+◌, ◌-◌, ◌*◌, ◌/◌, ◌%◌, ◌<◌, ◌≤◌, min, inl, inr, arith, add-zero, add-suc}
use Rattle.std.proofs.Math.Nat.{mul-pos, mul-le-mul_right}
use Rattle.std.proofs.lemmas.Bool.{cases_lt}
use Rattle.std.proofs.lemmas.Grind.{div_ceil_times}
use Rattle.skew_clock.specs.Clocking.{Clocking, rate_at, reading, IsFirst}
use Rattle.skew_clock.proofs.Readings.{reading-suc, reading-monotone}

-- as long as the clock reads less it runs evenly
even-below : (c : Clocking) (from at ppm n : ℕ) → ((j : ℕ) → from ≤ j → reading c j < at → rate_at c.sets j ≡ ppm) → ((m : ℕ) → m < n → reading c from + m * (c.beat_micros * ppm) < at) → reading c (from + n) ≡ reading c from + n * (c.beat_micros * ppm)
even-below c from at ppm zero rate less = rw add-zero (omega arith)
even-below c from at ppm (suc n) rate less =
    let before = even-below c from at ppm n rate (λ m below. less m (omega arith)) in
    let last = less n (omega arith) in
    let here : rate_at c.sets (from + n) ≡ ppm = rate (from + n) (omega arith) (omega (arith, before, last)) in
    rw (add-suc, reading-suc c (from + n), here) (omega (arith, before))

-- so it first reads as much after the rest, divided by what it runs in a beat and rounded up
pub first-reached : (c : Clocking) (from reads at ppm n step : ℕ) → reads ≡ reading c from → reads < at → ((j : ℕ) → from ≤ j → reading c j < at → rate_at c.sets j ≡ ppm) → step ≡ c.beat_micros * ppm → 0 < c.beat_micros → 0 < ppm → n ≡ (at - reads) / step + min 1 ((at - reads) % step) → IsFirst (reading c) (from + n) at (from + n)
first-reached c from reads at ppm n step begins below rate steps some_micros some_ppm beats =
    let runs : 0 < step = rw steps (mul-pos some_micros some_ppm) in
    let rest = div_ceil_times (at - reads) step runs in
    let enough : at - reads ≤ n * step = rw beats rest.0 in
    let few : n * step < (at - reads) + step = rw beats rest.1 in
    let less : (m : ℕ) → m < n → reading c from + m * step < at =
    λ m fewer. let whole : suc m * step ≤ n * step = mul-le-mul_right step fewer in omega (arith, whole, few, begins) in
    let even : (m : ℕ) → m ≤ n → reading c (from + m) ≡ reading c from + m * step =
    λ m within. rw steps (even-below c from at ppm m rate (λ i fewer. rw (← steps) (less i (omega arith)))) in
    let some : 0 < n = elim (cases_lt 0 n) [ inl more ↦ more | inr none ↦ absurd (omega (arith, enough, mul-le-mul_right step none)) ] in
    let last : reading c (from + (n - 1)) < at = omega (arith, even (n - 1) (omega arith), less (n - 1) (omega arith)) in
    record {
      within = omega arith;
      reached = omega (arith, even n (omega arith), enough, begins);
      before = λ j earlier. omega (arith, last, reading-monotone c j (from + (n - 1)) (omega arith));
    }
