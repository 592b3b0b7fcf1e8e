-- A search for a name in a list.
use Rattle.std.proofs.Common.{◌≡◌, ◌==◌, ◌<◌, ◌≤◌, ℕ, Bool, true, false, nat_lt, List, length, Result, Ok, Err, refl, sym, arith}
use Rattle.std.proofs.Math.ListN.{get_or}
use Rattle.std.proofs.lemmas.List.{get_or_default}
use Rattle.std.proofs.lemmas.Bool.Decides.{nat_tests}
use Rattle.std.proofs.lemmas.List.Folds.{list_any_at, list_any_none}
use Rattle.std.proofs.lemmas.List.Sorted.{searched}
use Rattle.std.specs.Bool.{MatchBool}
use Rattle.std.specs.List.Sorted.{IsBinarySearchResult, IsNonDecreasing}
use Rattle.std.specs.Ordering.{nat_cmp}
use Rattle.std.specs.Result.{MatchResult, is_ok}
use Rattle.node_health.specs.Kept.{is_listed}

pub found-listed : (names : List ℕ) (name : ℕ) (r : Result ℕ ℕ) → IsNonDecreasing names
    → IsBinarySearchResult (λ y. nat_cmp y name) names r → is_ok r ≡ is_listed names name
found-listed names name r sorted found = by_result r (searched names name r found (λ i j. sorted i j 0))
  where
    apart : (i k : ℕ) → ((k : ℕ) → k < i → get_or names k 0 < name) → ((k : ℕ) → i ≤ k → k < length names → name < get_or names k 0) → k < length names → (get_or names k 0 == name) ≡ false
    apart i k below above within = by_side (nat_lt k i) refl
      where
        by_side : (b : Bool) → nat_lt k i ≡ b → (get_or names k 0 == name) ≡ false
        by_side true is = let less : get_or names k 0 < name = below k (grind (arith, nat_tests, is)) in grind (arith, nat_tests, less)
        by_side false is = let more : name < get_or names k 0 = above k (grind (arith, nat_tests, is)) within in grind (arith, nat_tests, more)

    by_result : (r : Result ℕ ℕ) → MatchResult r (λ i. (i < length names) × (get_or names i 0 ≡ name)) (λ i. (i ≤ length names) × ((k : ℕ) → k < i → get_or names k 0 < name) × ((k : ℕ) → i ≤ k → k < length names → name < get_or names k 0)) → is_ok r ≡ is_listed names name
    by_result (Ok i) m = let same : (get_or names i 0 == name) ≡ true = grind (arith, nat_tests, m.1) in sym (list_any_at (λ other. other == name) names i 0 m.0 same)
    by_result (Err i) m = sym (list_any_none (λ other. other == name) names (λ k d within. rw (get_or_default names k d 0 within) (apart i k m.1 m.2 within)))

pub when_true : (A B : Type 0) (told : Bool) → MatchBool told A B → told ≡ true → A
when_true A B true m is = m
when_true A B false m is = absurd (cc)
