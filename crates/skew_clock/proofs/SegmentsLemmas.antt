-- What the segments of a clock say of its rates and readings.
use Rattle.std.proofs.Common.{◌≡◌, ℕ, zero, suc, ◌+◌, ◌-◌, ◌*◌, ◌<◌, ◌≤◌, true, false, leb, leb-true, leb-false, ltb, ltb-true, ltb-false, ap, inl, inr, List, [], ◌∷◌, length, map, get_or, refl, sym, ◌∙◌, subst, arith}
use Rattle.std.specs.List.Sorted.{IsPartitionPoint, IsNonDecreasingBy}
use Rattle.std.proofs.Math.Nat.{mul-le-mul_left}
use Rattle.std.proofs.lemmas.Bool.{cases_lt}
use Rattle.std.proofs.lemmas.Bool.Decides.{nat_tests}
use mathlib.Core.List.{reverse_aux}
use Rattle.skew_clock.specs.Clocking.{Clocking, rate_at, reading}
use Rattle.skew_clock.specs.Segments.{set_of, sets_of, clocking_of, Keeps, IsKept}
use Rattle.skew_clock.specs.declared.clock.Segment.{Segment}
use Rattle.skew_clock.specs.declared.clock.Clock.TheInside.{Inside}
use Rattle.skew_clock.proofs.Readings.{reading-bound, reading-even, reading-monotone, reading-zero}

-- a set after a beat doesn't count at the beat, and one at or before it counts before all older ones
pub skipped : (newest : ℕ × ℕ) (older : List (ℕ × ℕ)) (j : ℕ) → j < newest.0 → rate_at (newest ∷ older) j ≡ rate_at older j
skipped newest older j before = grind (arith, nat_tests)

counted : (newest : ℕ × ℕ) (older : List (ℕ × ℕ)) (j : ℕ) → newest.0 ≤ j → rate_at (newest ∷ older) j ≡ newest.1
counted newest older j after = grind (arith, nat_tests)

rate_at-later : (segments : List Segment) (older : List (ℕ × ℕ)) (j : ℕ) → ((k : ℕ) (d : Segment) → k < length segments → j < (get_or segments k d).beat.0) → rate_at (reverse_aux (map set_of segments) older) j ≡ rate_at older j
rate_at-later [] older j later = refl
rate_at-later (s ∷ ss) older j later =
    rate_at-later ss (set_of s ∷ older) j (λ k d inside. later (suc k) d (omega arith)) ∙ skipped (set_of s) older j (later zero s (omega arith))

rate_at-aux : (segments : List Segment) (older : List (ℕ × ℕ)) (i j : ℕ) (d : Segment) → i < length segments → (get_or segments i d).beat.0 ≤ j → ((k : ℕ) (e : Segment) → i < k → k < length segments → j < (get_or segments k e).beat.0) → rate_at (reverse_aux (map set_of segments) older) j ≡ (get_or segments i d).ppm
rate_at-aux [] older i j d inside begun later = absurd (omega arith)
rate_at-aux (s ∷ ss) older zero j d inside begun later =
    rate_at-later ss (set_of s ∷ older) j (λ k e below. later (suc k) e (omega arith) (omega arith)) ∙ counted (set_of s) older j begun
rate_at-aux (s ∷ ss) older (suc i) j d inside begun later =
    rate_at-aux ss (set_of s ∷ older) i j d (omega arith) begun (λ k e after below. later (suc k) e (omega arith) (omega arith))

-- the clock runs at the rate of the last segment that has begun
pub rate_at-segment : (segments : List Segment) (i j : ℕ) (d : Segment) → i < length segments → (get_or segments i d).beat.0 ≤ j → ((k : ℕ) (e : Segment) → i < k → k < length segments → j < (get_or segments k e).beat.0) → rate_at (sets_of segments) j ≡ (get_or segments i d).ppm
rate_at-segment segments i j d = rate_at-aux segments [] i j d

-- the segments from n on are those that haven't begun
abbrev pub AreBegun : List Segment → ℕ → ℕ → Type 0
AreBegun segments beat n = IsPartitionPoint (λ s. leb s.beat.0 beat ≡ true) (λ s. leb s.beat.0 beat ≡ false) segments n

pub begun-some : (segments : List Segment) (beat n : ℕ) → 0 < length segments → ((d : Segment) → (get_or segments 0 d).beat.0 ≡ 0) → AreBegun segments beat n → 1 ≤ n
begun-some [] beat n some first begun = absurd (omega arith)
begun-some (s ∷ ss) beat zero some first begun =
    let after : beat < s.beat.0 = leb-false s.beat.0 beat (begun.1 zero s (omega arith) some) in
    let at_zero : s.beat.0 ≡ 0 = first s in
    absurd (omega arith)
begun-some (s ∷ ss) beat (suc n) some first begun = omega arith

pub begun-last : (segments : List Segment) (beat n : ℕ) (s : Segment) → AreBegun segments beat n → 1 ≤ n → s ≡ get_or segments (n - 1) s → s.beat.0 ≤ beat
begun-last segments beat n s begun some found =
    let tested = begun.0 (n - 1) s (omega arith) (omega arith) in
    leb-true s.beat.0 beat (subst (λ (t : Segment). leb t.beat.0 beat ≡ true) (sym found) tested)

pub begun-rate : (segments : List Segment) (beat n : ℕ) (s : Segment) → AreBegun segments beat n → 1 ≤ n → n ≤ length segments → s ≡ get_or segments (n - 1) s → (j : ℕ) → s.beat.0 ≤ j → j ≤ beat → rate_at (sets_of segments) j ≡ s.ppm
begun-rate segments beat n s begun some inside found j from to =
    let ran = rate_at-segment segments (n - 1) j s (omega arith) (subst (λ (t : Segment). t.beat.0 ≤ j) found from)
    (λ k e after below. let later : beat < (get_or segments k e).beat.0 = leb-false _ _ (begun.1 k e (omega arith) below) in omega arith) in
    ran ∙ sym (subst (λ (t : Segment). s.ppm ≡ t.ppm) found refl)

most_at : (segments : List Segment) (older : List (ℕ × ℕ)) (most j : ℕ) → rate_at older j ≤ most → ((k : ℕ) (d : Segment) → k < length segments → (get_or segments k d).ppm ≤ most) → rate_at (reverse_aux (map set_of segments) older) j ≤ most
most_at [] older most j before each = before
most_at (s ∷ ss) older most j before each =
    let here : s.ppm ≤ most = each zero s (omega arith) in
    let both : rate_at (set_of s ∷ older) j ≤ most = grind (arith, nat_tests) in
    most_at ss (set_of s ∷ older) most j both (λ k d below. each (suc k) d (omega arith))

-- no reading up to the end is more than seven days at twice the true rate
pub reading-kept : (a : Inside) → IsKept a → (k : ℕ) → k ≤ a.end.0 → reading (clocking_of a) k ≤ 1209600000000000000
reading-kept a kept k within =
    let bound = reading-bound (clocking_of a) k 2000000 (λ j. most_at a.segments.items [] 2000000 j (omega arith) (λ i d below. (kept.each i d below).in_range.1)) in
    let beats = mul-le-mul_left a.beat_micros within in
    omega (arith, bound, beats, kept.span.2)

-- from a segment on the clock runs evenly, as long as its rate holds
pub reading-segment : (c : Clocking) (s : Segment) (beat : ℕ) → s.reading.0 ≡ reading c s.beat.0 → s.beat.0 ≤ beat → ((j : ℕ) → s.beat.0 ≤ j → j ≤ beat → rate_at c.sets j ≡ s.ppm) → s.reading.0 + (beat - s.beat.0) * (c.beat_micros * s.ppm) ≡ reading c beat
reading-segment c s beat begins begun rate =
    let even = reading-even c s.beat.0 (beat - s.beat.0) s.ppm (λ j from to. rate j from (omega arith)) in
    let same : s.beat.0 + (beat - s.beat.0) ≡ beat = omega arith in
    rw begins (sym (rw same at even))

-- the segments from n on are those that begin at the reading or above
abbrev pub AreBefore : List Segment → ℕ → ℕ → Type 0
AreBefore segments at n = IsPartitionPoint (λ s. ltb s.reading.0 at ≡ true) (λ s. ltb s.reading.0 at ≡ false) segments n

pub kept-at : (a : Inside) (n : ℕ) (s : Segment) → IsKept a → 1 ≤ n → n ≤ length a.segments.items → s ≡ get_or a.segments.items (n - 1) s → Keeps (clocking_of a) s
kept-at a n s kept some inside found = subst (Keeps (clocking_of a)) (sym found) (kept.each (n - 1) s (omega arith))

pub readings-ordered : (a : Inside) → IsKept a → IsNonDecreasingBy (λ s. s.reading.0) a.segments.items
readings-ordered a kept i j d below inside =
    let first = kept.each i d (omega arith) in
    let second = kept.each j d inside in
    let beats = kept.ordered i j d below inside in
    rw (first.at_reading, second.at_reading) (reading-monotone (clocking_of a) _ _ beats)

pub before-some : (a : Inside) (at n : ℕ) → IsKept a → 0 < at → AreBefore a.segments.items at n → 1 ≤ n
before-some a at n kept positive before =
    elim (cases_lt 0 n) [
      | inl more ↦ omega arith
      | inr none ↦
          absurd (let d : Segment = record { beat = record { 0 = 0 }; reading = record { 0 = 0 }; ppm = 0 } in
          let above = ltb-false _ _ (before.1 0 d none kept.some) in
          let reads = (kept.each 0 d kept.some).at_reading in
          let zero : (get_or a.segments.items 0 d).reading.0 ≡ 0 = reads ∙ ap (reading (clocking_of a)) (kept.first d) ∙ reading-zero (clocking_of a) in
          omega arith)
    ]

pub before-last : (segments : List Segment) (at n : ℕ) (s : Segment) → AreBefore segments at n → 1 ≤ n → s ≡ get_or segments (n - 1) s → s.reading.0 < at
before-last segments at n s before some found =
    let tested = before.0 (n - 1) s (omega arith) (omega arith) in
    ltb-true s.reading.0 at (subst (λ (t : Segment). ltb t.reading.0 at ≡ true) (sym found) tested)

pub before-rate : (a : Inside) (at n : ℕ) (s : Segment) → IsKept a → AreBefore a.segments.items at n → 1 ≤ n → n ≤ length a.segments.items → s ≡ get_or a.segments.items (n - 1) s → (j : ℕ) → s.beat.0 ≤ j → reading (clocking_of a) j < at → rate_at (sets_of a.segments.items) j ≡ s.ppm
before-rate a at n s kept before some inside found j from below =
    let c = clocking_of a in
    let segments = a.segments.items in
    let later : (k : ℕ) (e : Segment) → n - 1 < k → k < length segments → j < (get_or segments k e).beat.0 =
    λ k e after within. elim (cases_lt j (get_or segments k e).beat.0) [
      | inl less ↦ less
      | inr more ↦
          absurd (let above = ltb-false _ _ (before.1 k e (omega arith) within) in
          let reads = (kept.each k e within).at_reading in
          let rises = reading-monotone c _ _ more in
          omega arith)
    ] in
    let ran = rate_at-segment segments (n - 1) j s (omega arith) (subst (λ (t : Segment). t.beat.0 ≤ j) found from) later in
    ran ∙ sym (subst (λ (t : Segment). s.ppm ≡ t.ppm) found refl)
