-- The places of names, one more or one given.
use Rattle.std.proofs.Common.{◌≡◌, ◌≢◌, ℕ, zero, suc, ◌<◌, ◌==◌, List, [], ◌∷◌, ◌++◌, Option, Some, None, true, false, cond, length, set, refl, ap, sym, ◌∙◌, arith, ◌⊎◌, inl, inr}
use Rattle.std.proofs.lemmas.Bool.{cases_eq}
use Rattle.std.proofs.lemmas.Bool.Decides.{nat_tests}
use Rattle.kube_base.proofs.Lists.{get-set_other, get-set_same}
use Rattle.key_map.specs.Rows.{joined, place_in}

-- a place more, which is nobody's
pub one_more : (places : List (Option ℕ)) (n : ℕ) → place_in (places ++ None ∷ []) n ≡ place_in places n
one_more [] zero = refl
one_more [] (suc n) = refl
one_more (x ∷ xs) zero = refl
one_more (x ∷ xs) (suc n) = one_more xs n

-- a place that is given
pub given : (places : List (Option ℕ)) (name row n : ℕ) → name < length places → place_in (set places name (Some row)) n ≡ cond (name == n) (Some row) (place_in places n)
given places name row n within = by_name (cases_eq n name)
  where
    itself : (a : ℕ) → (a == a) ≡ true
    itself a = grind (arith, nat_tests)

    apart : (a b : ℕ) → b ≢ a → (a == b) ≡ false
    apart a b ne = grind (arith, nat_tests)

    by_name : (n ≡ name) ⊎ (n ≢ name) → place_in (set places name (Some row)) n ≡ cond (name == n) (Some row) (place_in places n)
    by_name (inl e) =
        ap (place_in (set places name (Some row))) e ∙ ap joined (get-set_same places name (Some row) within)
        ∙ sym (ap (λ k. cond (name == k) (Some row) (place_in places n)) e ∙ ap (λ t. cond t (Some row) (place_in places n)) (itself name))
    by_name (inr ne) =
        ap joined (get-set_other places name n (Some row) ne) ∙ sym (ap (λ t. cond t (Some row) (place_in places n)) (apart name n ne))
