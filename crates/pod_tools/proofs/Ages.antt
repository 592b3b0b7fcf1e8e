-- The first age that is kept, in ages in order, and the rank of an age among them.
use Rattle.std.proofs.Common.{◌≡◌, ℕ, zero, suc, ◌+◌, ◌<◌, ◌≤◌, nat_le, not, Bool, true, false, cond, List, [], ◌∷◌, length, get_or, refl, sym, ap, ◌∙◌, arith, Option}
use Rattle.std.specs.Prelude.{slice_get}
use Rattle.std.specs.Cmp.{IsStrictWeakOrder}
use Rattle.std.specs.List.Sorted.{IsPermutation, IsSortedBy}
use Rattle.std.proofs.lemmas.List.Sorted.{ranks_by, sorted_far, length_permutation, sum_by-IsPermutation}
use Rattle.std.proofs.lemmas.List.Sums.{sum_by-cons}
use Rattle.std.proofs.lemmas.Bool.{le-leb, lt-leb, leb-true, leb-false}
use Rattle.std.proofs.lemmas.Cmp.{nat_cmp_total, then_total, on_total}
use Rattle.pod_tools.specs.Collected.{Age, comes_before, comes_before_any, excess, rank}

-- ages are ordered by creation, then by place
pub order : IsStrictWeakOrder comes_before
order = ranks_by (then_total (on_total (λ (p : Age). p.0) nat_cmp_total) (on_total (λ (p : Age). p.1) nat_cmp_total)) (λ (p : Age). p)

-- no age of the list comes before one that stands before it
abbrev pub AreInOrder : List Age → Type 0
AreInOrder ages = (i j : ℕ) (d : Age) → i ≤ j → j < length ages → comes_before (get_or ages j d) (get_or ages i d) ≡ false

-- an age that comes before one comes before all that don't come before that one
before_all : (age a : Age) (b : Age) → comes_before age a ≡ true → comes_before b a ≡ false → comes_before age b ≡ true
before_all age a b first later = by_test (comes_before age b) refl
  where
    by_test : (t : Bool) → comes_before age b ≡ t → t ≡ true
    by_test true is = refl
    by_test false is = absurd (clash (sym first ∙ order.chain age b a is later))
      where
        clash : true ≡ false → ⊥
        clash h = cc

zero-plus : (n : ℕ) → 0 + n ≡ n
zero-plus n = omega arith

one-plus : (n : ℕ) → 1 + n ≡ suc n
one-plus n = omega arith

-- whether an age counts
abbrev counts : Age → Age → ℕ
counts age other = cond (not (comes_before age other)) 1 0

rank-before : (age : Age) (a : Age) (ages : List Age) → comes_before age a ≡ true → rank age (a ∷ ages) ≡ rank age ages
rank-before age a ages is = sum_by-cons (counts age) a ages ∙ ap (λ t. cond (not t) 1 0 + rank age ages) is ∙ zero-plus (rank age ages)

rank-after : (age : Age) (a : Age) (ages : List Age) → comes_before age a ≡ false → rank age (a ∷ ages) ≡ suc (rank age ages)
rank-after age a ages is = sum_by-cons (counts age) a ages ∙ ap (λ t. cond (not t) 1 0 + rank age ages) is ∙ one-plus (rank age ages)

rank-none : (age a : Age) (ages : List Age) → comes_before age a ≡ true → ((j : ℕ) (d : Age) → j < length ages → comes_before (get_or ages j d) a ≡ false) → rank age ages ≡ 0
rank-none age a [] first later = refl
rank-none age a (b ∷ ages) first later =
    rank-before age b ages (before_all age a b first (later 0 b (omega arith)))
    ∙ rank-none age a ages first (λ j d lt. later (suc j) d (omega arith))

le-sucs : (m n : ℕ) → nat_le (suc m) (suc n) ≡ nat_le m n
le-sucs m n = by_test (nat_le m n) refl
  where
    by_test : (t : Bool) → nat_le m n ≡ t → nat_le (suc m) (suc n) ≡ t
    by_test true e = le-leb (suc m) (suc n) (omega (arith, leb-true m n e))
    by_test false e = lt-leb (suc m) (suc n) (omega (arith, leb-false m n e))

-- the rank of an age behind one more, by the rank behind the others
kept-step : (age a : Age) (ages : List Age) (t : Bool) → comes_before age a ≡ t → (comes_before age a ≡ true → rank age ages ≡ 0)
    → ((k : ℕ) → comes_before_any age (slice_get ages k) ≡ nat_le (rank age ages) k)
    → (k : ℕ) → comes_before_any age (slice_get (a ∷ ages) k) ≡ nat_le (rank age (a ∷ ages)) k
kept-step age a ages true is nobody later zero =
    is ∙ sym (le-leb (rank age (a ∷ ages)) 0 (omega (arith, rank-before age a ages is, nobody is)))
kept-step age a ages true is nobody later (suc k) =
    later k ∙ le-leb (rank age ages) k (omega (arith, nobody is))
    ∙ sym (le-leb (rank age (a ∷ ages)) (suc k) (omega (arith, rank-before age a ages is, nobody is)))
kept-step age a ages false is nobody later zero = is ∙ sym (lt-leb (rank age (a ∷ ages)) 0 (omega (arith, rank-after age a ages is)))
kept-step age a ages false is nobody later (suc k) =
    later k ∙ sym (le-sucs (rank age ages) k) ∙ ap (λ n. nat_le n (suc k)) (sym (rank-after age a ages is))

-- in ages in order, an age comes before the one at a place exactly where its rank is at most that place
pub kept-rank : (age : Age) (ages : List Age) → AreInOrder ages → (k : ℕ) → comes_before_any age (slice_get ages k) ≡ nat_le (rank age ages) k
kept-rank age [] up k = sym (le-leb 0 k (omega arith))
kept-rank age (a ∷ ages) up k =
    kept-step age a ages (comes_before age a) refl
    (λ is. rank-none age a ages is (λ j d lt. up 0 (suc j) d (omega arith) (omega arith)))
    (kept-rank age ages (λ i j d le lt. up (suc i) (suc j) d (omega arith) (omega arith))) k

-- the first age that is kept, in the code's steps: the ages are sorted, and one is looked up
pub first-kept : (age : Age) (ages made sorted shown : List Age) (threshold : ℕ) (found : Option Age)
    → made ≡ ages → IsPermutation made sorted → IsSortedBy comes_before sorted → shown ≡ sorted → found ≡ slice_get shown (excess threshold (length shown))
    → comes_before_any age found ≡ nat_le (rank age ages) (excess threshold (length ages))
first-kept age ages made sorted shown threshold found same moved up seen at =
    let long : length sorted ≡ length ages = length_permutation made sorted moved ∙ ap length same in
    ap (comes_before_any age) (at ∙ ap (λ s. slice_get s (excess threshold (length s))) seen)
    ∙ kept-rank age sorted (λ i j d le lt. sorted_far comes_before order sorted up i j d le lt) (excess threshold (length sorted))
    ∙ ap (λ n. nat_le n (excess threshold (length sorted))) (sum_by-IsPermutation (counts age) made sorted moved)
    ∙ ap (λ xs. nat_le (rank age xs) (excess threshold (length sorted))) same
    ∙ ap (λ n. nat_le (rank age ages) (excess threshold n)) long
