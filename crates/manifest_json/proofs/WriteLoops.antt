-- The loops that write arrays: what is written, then what is left.
use Rattle.std.proofs.Common.{◌≡◌, ℕ, ◌+◌, ◌<◌, ◌≤◌, Bool, true, false, ◌&&◌, List, [], ◌∷◌, ◌++◌, length, drop, map, get_or, Option, Some, String, Global, refl, sym, ap, ◌∙◌, drop-cons, add-one, append_assoc}
use Rattle.std.specs.List.{list_all}
use Rattle.std.proofs.lemmas.List.{drop_all, map-append}
use Rattle.serde_json.specs.Data.{Data, Members, object, array}
use Rattle.serde_json.specs.View.{view, items_view, members_view}
use Rattle.serde_json.specs.declared.value.Value.{Value}
use Rattle.manifest_json.specs.Written.{with_field, filled_object, filled_array}

append_nil : {A : Type 0} (xs : List A) → xs ++ [] ≡ xs
append_nil [] = refl
append_nil (x ∷ xs) = ap (λ ys. x ∷ ys) (append_nil xs)

both : (a b : Bool) → (a && b) ≡ true → (a ≡ true) × (b ≡ true)
both true b h = (refl, h)
both false b h = absurd cc

-- the members so far, and those that are left
abbrev pub SoFar : {A : Type 0} → (A → Data) → List A → ℕ → List Value → Type 0
SoFar f xs place vs = map view vs ++ map f (drop place xs) ≡ map f xs

module _ {A : Type 0} (f : A → Data) (xs : List A) (place : ℕ) (vs : List Value) (so_far : SoFar f xs place vs) where
  pub so_far-step : (x : A) (v : Value) (more : List Value) → place < length xs → x ≡ get_or xs place x → view v ≡ f x → more ≡ vs ++ v ∷ [] → SoFar f xs (place + 1) more
  so_far-step x v more lt is put push =
      let left : drop place xs ≡ x ∷ drop (place + 1) xs = rw (add-one, drop-cons xs place x lt, ← is) refl in
      ap (λ ys. map view ys ++ map f (drop (place + 1) xs)) push
      ∙ ap (λ ys. ys ++ map f (drop (place + 1) xs)) (map-append view vs (v ∷ []))
      ∙ append_assoc (map view vs) (view v ∷ []) (map f (drop (place + 1) xs))
      ∙ ap (λ d. map view vs ++ (d ∷ map f (drop (place + 1) xs))) put
      ∙ sym (ap (λ ys. map view vs ++ map f ys) left)
      ∙ so_far

  pub so_far-end : length xs ≤ place → map view vs ≡ map f xs
  so_far-end le = sym (append_nil (map view vs)) ∙ sym (ap (λ ys. map view vs ++ map f ys) (drop_all place xs le)) ∙ so_far

-- the test holds of the one at the place, and of those behind it
pub all-next : {A : Type 0} (p : A → Bool) (xs : List A) (place : ℕ) (x : A) → list_all p (drop place xs) ≡ true → place < length xs → x ≡ get_or xs place x → (p x ≡ true) × (list_all p (drop (place + 1) xs) ≡ true)
all-next p xs place x all lt is =
    let left : drop place xs ≡ x ∷ drop (place + 1) xs = rw (add-one, drop-cons xs place x lt, ← is) refl in
    both (p x) (list_all p (drop (place + 1) xs)) (sym (ap (list_all p) left) ∙ all)

-- members that are there make an object
pub filled_object-some : (es : List (String Global × Value)) → (length es ≡ 0 → ⊥) → filled_object (members_view es) ≡ Some (object (members_view es))
unfolding filled_object
filled_object-some [] h = absurd (h refl)
filled_object-some (e ∷ es) h = refl

pub filled_array-some : (vs : List Value) → (length vs ≡ 0 → ⊥) → filled_array (items_view vs) ≡ Some (array (items_view vs))
unfolding filled_array
filled_array-some [] h = absurd (h refl)
filled_array-some (v ∷ vs) h = refl

-- one more field, whose value and whose members before it are known
pub field-step : (key : List ℕ) (o p : Option Data) (ms before so : Members) → ms ≡ with_field key o before → o ≡ p → before ≡ so → ms ≡ with_field key p so
field-step key o p ms before so is value from = is ∙ ap (λ x. with_field key x before) value ∙ ap (λ x. with_field key p x) from
