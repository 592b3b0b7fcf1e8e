-- Lists in strict order, and what of them comes after a place in them.
use Rattle.std.specs.Prelude.{◌≡◌, Bool, true, cond, List, [], ◌∷◌, Option, Some, None}
use Rattle.std.specs.Cmp.{IsTotalOrder}
use Rattle.std.specs.Ordering.{is_lt}
use Rattle.std.specs.declared.cmp.Ordering.{Ordering}
use Rattle.std.specs.declared.cmp.Ordering.TheVariants.{Less, Equal}
pub use Rattle.history_laws.specs.Tails.{Among}

-- an order that tells things apart
pub record IsStrict {A : Type 0} (compare : A → A → Ordering) : Type 0 where
  pub total : IsTotalOrder compare
  pub same : (a b : A) → compare a b ≡ Equal → a ≡ b

-- all come after this one
abbrev pub Above : {A : Type 0} → (A → A → Ordering) → A → List A → Type 0
Above compare x [] = Unit {0}
Above compare x (y ∷ ys) = (compare x y ≡ Less) × Above compare x ys

abbrev pub Ascends : {A : Type 0} → (A → A → Ordering) → List A → Type 0
Ascends compare [] = Unit {0}
Ascends compare (x ∷ xs) = Above compare x xs × Ascends compare xs

-- whether this comes after a place; None is before all
abbrev pub is_after : {A : Type 0} → (A → A → Ordering) → Option A → A → Bool
is_after compare None x = true
is_after compare (Some c) x = is_lt (compare c x)

-- those that come after a place
abbrev pub after : {A : Type 0} → (A → A → Ordering) → Option A → List A → List A
after compare c [] = []
after compare c (x ∷ xs) = cond (is_after compare c x) (x ∷ xs) (after compare c xs)
