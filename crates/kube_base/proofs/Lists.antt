-- What lists that are written or grown have at each place.
use Rattle.std.proofs.Common.{◌≡◌, ◌≢◌, ℕ, zero, suc, ◌<◌, ◌==◌, cond, false, List, [], ◌∷◌, ◌++◌, Some, length, slice_get, slice_set, refl, ap, subst, ◌∙◌, arith}
use Rattle.std.proofs.lemmas.Bool.Decides.{nat_tests}

-- ---- one place is written

pub get-set_same : {A : Type 0} (xs : List A) (i : ℕ) (x : A) → i < length xs → slice_get (slice_set xs i x) i ≡ Some x
get-set_same [] i x within = absurd (omega (arith, within))
get-set_same (y ∷ xs) zero x within = refl
get-set_same (y ∷ xs) (suc i) x within = get-set_same xs i x (omega (arith, within))

pub get-set_other : {A : Type 0} (xs : List A) (i j : ℕ) (x : A) → j ≢ i → slice_get (slice_set xs i x) j ≡ slice_get xs j
get-set_other [] i j x other = refl
get-set_other (y ∷ xs) zero zero x other = absurd (other refl)
get-set_other (y ∷ xs) zero (suc j) x other = refl
get-set_other (y ∷ xs) (suc i) zero x other = refl
get-set_other (y ∷ xs) (suc i) (suc j) x other = get-set_other xs i j x (λ e. other (ap suc e))

pub get-set : {A : Type 0} (xs : List A) (i j : ℕ) (x : A) → i < length xs → slice_get (slice_set xs i x) j ≡ cond (i == j) (Some x) (slice_get xs j)
get-set [] i j x within = absurd (omega (arith, within))
get-set (y ∷ xs) zero zero x within = refl
get-set (y ∷ xs) zero (suc j) x within = ap (λ b. cond b (Some x) (slice_get xs j)) (let apart : false ≡ (zero == suc j) = grind (arith, nat_tests) in apart)
get-set (y ∷ xs) (suc i) zero x within = ap (λ b. cond b (Some x) (Some y)) (let apart : false ≡ (suc i == zero) = grind (arith, nat_tests) in apart)
get-set (y ∷ xs) (suc i) (suc j) x within =
    get-set xs i j x (omega (arith, within))
    ∙ ap (λ b. cond b (Some x) (slice_get xs j)) (let same : (i == j) ≡ (suc i == suc j) = grind (arith, nat_tests) in same)

-- ---- more come at the end

pub get-front : {A : Type 0} (xs ys : List A) (i : ℕ) (x : A) → slice_get xs i ≡ Some x → slice_get (xs ++ ys) i ≡ Some x
get-front [] ys i x is = cc
get-front (z ∷ xs) ys zero x is = is
get-front (z ∷ xs) ys (suc i) x is = get-front xs ys i x is

pub get-end : {A : Type 0} (xs : List A) (x : A) → slice_get (xs ++ x ∷ []) (length xs) ≡ Some x
get-end [] x = refl
get-end (z ∷ xs) x = get-end xs x

-- what holds of each element and its place holds with one more at the end
pub every-end : {A : Type 0} (P : ℕ → A → Type 0) (xs : List A) (x : A) → ((i : ℕ) (y : A) → slice_get xs i ≡ Some y → P i y) → P (length xs) x →
    (i : ℕ) (y : A) → slice_get (xs ++ x ∷ []) i ≡ Some y → P i y
every-end P [] x all last zero y is = let same : x ≡ y = cc in subst (λ z. P 0 z) same last
every-end P [] x all last (suc i) y is = cc
every-end P (z ∷ xs) x all last zero y is = all zero y is
every-end P (z ∷ xs) x all last (suc i) y is = every-end (λ j. P (suc j)) xs x (λ j. all (suc j)) last i y is
