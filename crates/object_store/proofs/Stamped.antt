-- Stamping goes along a list.
use Rattle.std.proofs.Common.{◌≡◌, ℕ, ◌+◌, ◌<◌, List, [], ◌∷◌, ◌++◌, length, take, get_or, refl, ap, ◌∙◌}
use Rattle.std.proofs.lemmas.List.{take_more}
use Rattle.kube_objects.specs.declared.node.Taint.{Taint}
use Rattle.kube_objects.specs.Stamps.{stamp_all, stamp_taint}

stamp_all-append : (at : ℕ) (xs ys : List Taint) → stamp_all at (xs ++ ys) ≡ stamp_all at xs ++ stamp_all at ys
stamp_all-append at [] ys = refl
stamp_all-append at (x ∷ xs) ys = ap (λ zs. stamp_taint at x ∷ zs) (stamp_all-append at xs ys)

-- one more taint is stamped
pub stamp_all_more : (at : ℕ) (xs : List Taint) (i : ℕ) (d : Taint) → i < length xs → stamp_all at (take (i + 1) xs) ≡ stamp_all at (take i xs) ++ stamp_taint at (get_or xs i d) ∷ []
stamp_all_more at xs i d below = ap (stamp_all at) (take_more xs i d below) ∙ stamp_all-append at (take i xs) (get_or xs i d ∷ [])
