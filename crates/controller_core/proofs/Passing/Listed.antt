-- A list of names with a first one.
use Rattle.std.proofs.Common.{◌≡◌, ◌==◌, ◌||◌, ℕ, Bool, true, false, List, ◌∷◌, refl, ap, arith}
use Rattle.std.proofs.lemmas.Bool.Decides.{nat_tests}
use Rattle.node_health.specs.Kept.{is_listed}

pub listed_first : (n : ℕ) (ns : List ℕ) → is_listed (n ∷ ns) n ≡ true
listed_first n ns = ap (λ t. t || is_listed ns n) same
  where
    same : (n == n) ≡ true
    same = grind (arith, nat_tests)

pub listed_later : (n m : ℕ) (ns : List ℕ) → is_listed ns m ≡ true → is_listed (n ∷ ns) m ≡ true
listed_later n m ns is = by_test (n == m) is
  where
    by_test : (b : Bool) → is_listed ns m ≡ true → (b || is_listed ns m) ≡ true
    by_test true is = refl
    by_test false is = is
