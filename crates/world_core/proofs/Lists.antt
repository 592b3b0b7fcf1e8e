-- Layer 1, lists, ranges and places: one list after another, or none.
use Rattle.std.proofs.Common.{◌≡◌, ℕ, suc, ◌+◌, false, List, [], ◌∷◌, ◌++◌, length, slice_get, refl, ap, ◌∙◌, arith}
use Rattle.wire_calls.specs.InFlight.{has_any}

pub length-end : {A : Type 0} (xs : List A) (x : A) → length (xs ++ x ∷ []) ≡ length xs + 1
length-end [] x = refl
length-end (z ∷ zs) x = omega (arith, length-end zs x)

pub none-from : {A : Type 0} (xs : List A) → has_any xs ≡ false → xs ≡ []
none-from [] none = refl
none-from (x ∷ xs) none = cc

pub slice_get-back : {A : Type 0} (xs ys : List A) (i : ℕ) → slice_get (xs ++ ys) (length xs + i) ≡ slice_get ys i
slice_get-back [] ys i = let none : 0 + i ≡ i = omega arith in ap (λ n. slice_get ys n) none
slice_get-back (z ∷ zs) ys i =
    let one_less : length (z ∷ zs) + i ≡ suc (length zs + i) = omega arith in
    ap (λ n. slice_get (z ∷ zs ++ ys) n) one_less ∙ slice_get-back zs ys i
