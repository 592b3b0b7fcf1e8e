-- The place of the first element that passes a test.
use Rattle.std.proofs.Common.{◌≡◌, ℕ, suc, ◌+◌, ◌<◌, ◌≤◌, ◌||◌, not, Bool, true, false, cond, List, [], ◌∷◌, ◌++◌, length, slice_get, unwrap_or, refl, sym, ap, subst, ◌∙◌, arith}
use Rattle.std.specs.List.{list_any, position_or_len}

module _ {A : Type 0} (p : A → Bool) where
  place : List A → ℕ
  place xs = position_or_len p xs

  place-here : (x : A) (xs : List A) → p x ≡ true → place (x ∷ xs) ≡ 0
  unfolding place
  place-here x xs e = ap (λ b. cond (not b) (1 + position_or_len p xs) 0) e

  place-later : (x : A) (xs : List A) → p x ≡ false → place (x ∷ xs) ≡ 1 + place xs
  unfolding place
  place-later x xs e = ap (λ b. cond (not b) (1 + position_or_len p xs) 0) e

  at : List A → A → ℕ → Bool
  at xs d i = p (unwrap_or (slice_get xs i) d)

  first_hit : (xs : List A) (d : A) → place xs < length xs → at xs d (place xs) ≡ true
  unfolding at
  first_hit [] d within = absurd (omega arith)
  first_hit (x ∷ xs) d within = by (p x) refl (first_hit xs d)
    where
      by : (b : Bool) → p x ≡ b → (place xs < length xs → at xs d (place xs) ≡ true) → at (x ∷ xs) d (place (x ∷ xs)) ≡ true
      by true e rest = ap (at (x ∷ xs) d) (place-here x xs e) ∙ e
      by false e rest =
          let later = place-later x xs e in
          let next : 1 + place xs ≡ suc (place xs) = omega arith in
          ap (at (x ∷ xs) d) (later ∙ next) ∙ rest (omega (arith, later, within))

  some_within : (xs : List A) → list_any p xs ≡ true → place xs < length xs
  some_within [] some = absurd cc
  some_within (x ∷ xs) some = by (p x) refl (some_within xs)
    where
      by : (b : Bool) → p x ≡ b → (list_any p xs ≡ true → place xs < length xs) → place (x ∷ xs) < length (x ∷ xs)
      by true e rest = omega (arith, place-here x xs e)
      by false e rest = omega (arith, place-later x xs e, rest (subst (λ b. (b || list_any p xs) ≡ true) e some))

  none_there : (xs : List A) → list_any p xs ≡ false → place xs ≡ length xs
  unfolding place
  none_there [] none = refl
  none_there (x ∷ xs) none = by (p x) refl (none_there xs)
    where
      by : (b : Bool) → p x ≡ b → (list_any p xs ≡ false → place xs ≡ length xs) → place (x ∷ xs) ≡ length (x ∷ xs)
      by true e rest = absurd (let bad : true ≡ false = subst (λ b. (b || list_any p xs) ≡ false) e none in cc)
      by false e rest = omega (arith, place-later x xs e, rest (subst (λ b. (b || list_any p xs) ≡ false) e none))

  front : (xs ys : List A) → place xs < length xs → place (xs ++ ys) ≡ place xs
  front [] ys within = absurd (omega arith)
  front (x ∷ xs) ys within = by (p x) refl (front xs ys)
    where
      by : (b : Bool) → p x ≡ b → (place xs < length xs → place (xs ++ ys) ≡ place xs) → place (x ∷ (xs ++ ys)) ≡ place (x ∷ xs)
      by true e rest = place-here x (xs ++ ys) e ∙ sym (place-here x xs e)
      by false e rest =
          let later = place-later x xs e in
          place-later x (xs ++ ys) e ∙ ap (λ n. 1 + n) (rest (omega (arith, later, within))) ∙ sym later

  past : (xs ys : List A) → length xs ≤ place xs → length xs ≤ place (xs ++ ys)
  past [] ys none = omega arith
  past (x ∷ xs) ys none = by (p x) refl (past xs ys)
    where
      by : (b : Bool) → p x ≡ b → (length xs ≤ place xs → length xs ≤ place (xs ++ ys)) → length (x ∷ xs) ≤ place (x ∷ (xs ++ ys))
      by true e rest = absurd (omega (arith, place-here x xs e, none))
      by false e rest = omega (arith, place-later x (xs ++ ys) e, rest (omega (arith, place-later x xs e, none)))

  -- the first that passes, where one does
  pub hit : (xs : List A) (d : A) → position_or_len p xs < length xs → p (unwrap_or (slice_get xs (position_or_len p xs)) d) ≡ true
  unfolding place at
  hit xs d within = first_hit xs d within

  pub any_within : (xs : List A) → list_any p xs ≡ true → position_or_len p xs < length xs
  unfolding place
  any_within xs some = some_within xs some

  pub none_within : (xs : List A) → list_any p xs ≡ false → position_or_len p xs ≡ length xs
  unfolding place
  none_within xs none = none_there xs none

  pub place-front : (xs ys : List A) → position_or_len p xs < length xs → position_or_len p (xs ++ ys) ≡ position_or_len p xs
  unfolding place
  place-front xs ys within = front xs ys within

  pub place-past : (xs ys : List A) → length xs ≤ position_or_len p xs → length xs ≤ position_or_len p (xs ++ ys)
  unfolding place
  place-past xs ys none = past xs ys none
