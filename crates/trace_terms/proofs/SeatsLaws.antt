-- The seats of all identities.
use Rattle.std.proofs.Common.{◌≡◌, ℕ, zero, suc, ◌+◌, ◌<◌, ◌≤◌, Bool, true, false, cond, not, ◌||◌, List, [], ◌∷◌, ◌++◌, length, map, slice_get, Some, None, refl, sym, ap, subst, ◌∙◌, arith, length-append}
use Rattle.std.proofs.Math.ListN.{set}
use Rattle.std.specs.List.{AllByRecursion, IsDistinct, list_any, position_or_len}
use Rattle.std.specs.Str.{bytes_eq}
use Rattle.std.proofs.lemmas.Slice.Eq.{bytes_eq-Decides}
use Rattle.kube_base.specs.Names.{number_in, with_name}
use Rattle.trace_terms.specs.declared.seat.Seat.{Seat}
use Rattle.trace_terms.specs.Seats.{AllSit, Once}

-- as many seats as identities
pub all-sit-length : (P : List ℕ → Seat → Type 0) (ks : List (List ℕ)) (ss : List Seat) → AllSit P ks ss → length ss ≡ length ks
all-sit-length P [] [] h = refl
all-sit-length P [] (s ∷ ss) h = absurd h
all-sit-length P (k ∷ ks) [] h = absurd h
all-sit-length P (k ∷ ks) (s ∷ ss) h = let e = all-sit-length P ks ss h.1 in let all : length (s ∷ ss) ≡ length (k ∷ ks) = omega (arith, e) in all

-- one more
pub all-sit-push : (P : List ℕ → Seat → Type 0) (ks : List (List ℕ)) (ss : List Seat) (k : List ℕ) (s : Seat) → AllSit P ks ss → P k s → AllSit P (ks ++ k ∷ []) (ss ++ s ∷ [])
all-sit-push P [] [] k s h p = (p, tt)
all-sit-push P [] (t ∷ ss) k s h p = absurd h
all-sit-push P (j ∷ ks) [] k s h p = absurd h
all-sit-push P (j ∷ ks) (t ∷ ss) k s h p = (h.0, all-sit-push P ks ss k s h.1 p)

-- all at once
pub all-sit-map : (P Q : List ℕ → Seat → Type 0) (ks : List (List ℕ)) (ss : List Seat) → ((k : List ℕ) (s : Seat) → list_any (bytes_eq k) ks ≡ true → P k s → Q k s)
    → AllSit P ks ss → AllSit Q ks ss
all-sit-map P Q [] [] f h = tt
all-sit-map P Q [] (s ∷ ss) f h = absurd h
all-sit-map P Q (k ∷ ks) [] f h = absurd h
all-sit-map P Q (k ∷ ks) (s ∷ ss) f h = (
  f k s (ap (λ b. b || list_any (bytes_eq k) ks) ((bytes_eq-Decides k k).1 refl)) h.0,
  all-sit-map P Q ks ss (λ j t held p. f j t (or-right (bytes_eq j k) (list_any (bytes_eq j) ks) held) p) h.1,
)
  where
    or-right : (a b : Bool) → b ≡ true → (a || b) ≡ true
    or-right true b e = refl
    or-right false b e = e

-- what stands at a place is held
pub held-at : (ks : List (List ℕ)) (a : List ℕ) (n : ℕ) → slice_get ks n ≡ Some a → list_any (bytes_eq a) ks ≡ true
held-at [] a n at = absurd (let denied : None ≡ Some a = at in cc)
held-at (k ∷ ks) a zero at = let same : a ≡ k = (let e : Some k ≡ Some a = at in cc) in ap (λ b. b || list_any (bytes_eq a) ks) ((bytes_eq-Decides a k).1 same)
held-at (k ∷ ks) a (suc n) at = or-right (bytes_eq a k) (held-at ks a n at)
  where
    or-right : (b : Bool) → list_any (bytes_eq a) ks ≡ true → (b || list_any (bytes_eq a) ks) ≡ true
    or-right true e = refl
    or-right false e = e

-- the others of one that isn't among them
others : (P Q : List ℕ → Seat → Type 0) (a : List ℕ) → ((k : List ℕ) (t : Seat) → bytes_eq a k ≡ false → P k t → Q k t) → (ks : List (List ℕ)) (ss : List Seat)
    → list_any (bytes_eq a) ks ≡ false → AllSit P ks ss → AllSit Q ks ss
others P Q a f [] [] denied h = tt
others P Q a f [] (s ∷ ss) denied h = absurd h
others P Q a f (k ∷ ks) [] denied h = absurd h
others P Q a f (k ∷ ks) (s ∷ ss) denied h = by (bytes_eq a k) refl denied (λ d. others P Q a f ks ss d h.1)
  where
    by : (b : Bool) → bytes_eq a k ≡ b → (b || list_any (bytes_eq a) ks) ≡ false → (list_any (bytes_eq a) ks ≡ false → AllSit Q ks ss) → AllSit Q (k ∷ ks) (s ∷ ss)
    by true e denied again = absurd (let bad : true ≡ false = denied in cc)
    by false e denied again = (f k s e h.0, again denied)

-- one of them anew, and the others as they are
pub all-sit-set : (P Q : List ℕ → Seat → Type 0) (a : List ℕ) (ks : List (List ℕ)) (ss : List Seat) (place : ℕ) (s : Seat) → Once ks
    → slice_get ks place ≡ Some a → ((k : List ℕ) (t : Seat) → bytes_eq a k ≡ false → P k t → Q k t) → Q a s → AllSit P ks ss → AllSit Q ks (set ss place s)
all-sit-set P Q a [] ss place s once at f q h = absurd (let denied : None ≡ Some a = at in cc)
all-sit-set P Q a (k ∷ ks) [] place s once at f q h = absurd h
all-sit-set P Q a (k ∷ ks) (t ∷ ss) zero s once at f q h =
    let same : k ≡ a = (let e : Some k ≡ Some a = at in cc) in
    (subst (λ w. Q w s) (sym same) q, others P Q a f ks ss (subst (λ w. list_any (bytes_eq w) ks ≡ false) same once.0) h.1)
all-sit-set P Q a (k ∷ ks) (t ∷ ss) (suc place) s once at f q h =
    (f k t (differs (bytes_eq a k) refl) h.0, all-sit-set P Q a ks ss place s once.1 at f q h.1)
  where
    differs : (b : Bool) → bytes_eq a k ≡ b → bytes_eq a k ≡ false
    differs false e = e
    differs true e =
        let same : a ≡ k = (bytes_eq-Decides a k).0 e in
        let denied : list_any (bytes_eq a) ks ≡ false = subst (λ w. list_any (bytes_eq w) ks ≡ false) (sym same) once.0 in
        absurd (let bad : true ≡ false = sym (held-at ks a place at) ∙ denied in cc)

-- the seat at a place
pub all-sit-at : (P : List ℕ → Seat → Type 0) (a : List ℕ) (ks : List (List ℕ)) (ss : List Seat) (place : ℕ) → slice_get ks place ≡ Some a → AllSit P ks ss
    → (s : Seat) × (slice_get ss place ≡ Some s) × P a s
all-sit-at P a [] ss place at h = absurd (let denied : None ≡ Some a = at in cc)
all-sit-at P a (k ∷ ks) [] place at h = absurd h
all-sit-at P a (k ∷ ks) (s ∷ ss) zero at h = let same : k ≡ a = (let e : Some k ≡ Some a = at in cc) in (s, refl, subst (λ w. P w s) same h.0)
all-sit-at P a (k ∷ ks) (s ∷ ss) (suc place) at h = all-sit-at P a ks ss place at h.1

-- ---- places

pub one-place : (ks : List (List ℕ)) → Once ks → (p q : ℕ) (a : List ℕ) → slice_get ks p ≡ Some a → slice_get ks q ≡ Some a → p ≡ q
one-place [] once p q a at there = absurd (let denied : None ≡ Some a = at in cc)
one-place (k ∷ ks) once zero zero a at there = refl
one-place (k ∷ ks) once zero (suc q) a at there =
    let same : k ≡ a = (let e : Some k ≡ Some a = at in cc) in
    absurd (let bad : true ≡ false = sym (held-at ks a q there) ∙ subst (λ w. list_any (bytes_eq w) ks ≡ false) same once.0 in cc)
one-place (k ∷ ks) once (suc p) zero a at there =
    let same : k ≡ a = (let e : Some k ≡ Some a = there in cc) in
    absurd (let bad : true ≡ false = sym (held-at ks a p at) ∙ subst (λ w. list_any (bytes_eq w) ks ≡ false) same once.0 in cc)
one-place (k ∷ ks) once (suc p) (suc q) a at there = ap (λ n. suc n) (one-place ks once.1 p q a at there)

-- the keys of an index set stand at one place each
module _ {A : Type 0} (f : A → List ℕ) where
  missing : (k : A) (ks : List A) → AllByRecursion (λ b. bytes_eq (f k) (f b) ≡ false) ks → list_any (bytes_eq (f k)) (map f ks) ≡ false
  missing k [] h = refl
  missing k (j ∷ ks) h = ap (λ b. b || list_any (bytes_eq (f k)) (map f ks)) h.0 ∙ missing k ks h.1

  pub once-map : (ks : List A) → IsDistinct (λ a b. bytes_eq (f a) (f b)) ks → Once (map f ks)
  unfolding IsDistinct
  once-map [] d = tt
  once-map (k ∷ ks) d = (missing k ks d.0, once-map ks d.1)

-- ---- a text that gets a place

pub with-name-is : (names : List (List ℕ)) (a : List ℕ) (b : Bool) → list_any (bytes_eq a) names ≡ b → with_name names a ≡ cond b names (names ++ a ∷ [])
unfolding with_name
with-name-is names a b e = ap (λ c. cond c names (names ++ a ∷ [])) e

one-plus : (n : ℕ) → 1 + n ≡ suc n
one-plus n = omega arith

pub number-at : (names : List (List ℕ)) (a : List ℕ) → slice_get (with_name names a) (number_in names a) ≡ Some a
unfolding with_name number_in
number-at [] a = refl
number-at (k ∷ ks) a = by (bytes_eq a k) refl (number-at ks a)
  where
    next : (c : Bool) (n : ℕ) → slice_get (cond c ks (ks ++ a ∷ [])) n ≡ Some a → slice_get (cond c (k ∷ ks) (k ∷ (ks ++ a ∷ []))) (suc n) ≡ Some a
    next true n e = e
    next false n e = e

    by : (b : Bool) → bytes_eq a k ≡ b → slice_get (cond (list_any (bytes_eq a) ks) ks (ks ++ a ∷ [])) (position_or_len (bytes_eq a) ks) ≡ Some a
        → slice_get (cond (b || list_any (bytes_eq a) ks) (k ∷ ks) (k ∷ (ks ++ a ∷ []))) (cond (not b) (1 + position_or_len (bytes_eq a) ks) 0) ≡ Some a
    by true e rest = ap (λ w. Some w) (sym ((bytes_eq-Decides a k).0 e))
    by false e rest =
        ap (λ n. slice_get (cond (list_any (bytes_eq a) ks) (k ∷ ks) (k ∷ (ks ++ a ∷ []))) n) (one-plus (position_or_len (bytes_eq a) ks))
        ∙ next (list_any (bytes_eq a) ks) (position_or_len (bytes_eq a) ks) rest

-- what has no more names has the same
pub unchanged : (names : List (List ℕ)) (a : List ℕ) → length (with_name names a) ≤ length names → with_name names a ≡ names
unchanged names a few = by (list_any (bytes_eq a) names) refl
  where
    by : (b : Bool) → list_any (bytes_eq a) names ≡ b → with_name names a ≡ names
    by true e = with-name-is names a true e
    by false e =
        let more : length (with_name names a) ≡ length names + 1 = ap (λ ks. length ks) (with-name-is names a false e) ∙ length-append names (a ∷ []) in
        absurd (omega (arith, more, few))

-- what has more has this one more
pub one-more : (names : List (List ℕ)) (a : List ℕ) → length names < length (with_name names a)
    → (list_any (bytes_eq a) names ≡ false) × (with_name names a ≡ names ++ a ∷ [])
one-more names a many = by (list_any (bytes_eq a) names) refl
  where
    by : (b : Bool) → list_any (bytes_eq a) names ≡ b → (list_any (bytes_eq a) names ≡ false) × (with_name names a ≡ names ++ a ∷ [])
    by true e =
        let same : length (with_name names a) ≡ length names = ap (λ ks. length ks) (with-name-is names a true e) in
        absurd (omega (arith, same, many))
    by false e = (e, with-name-is names a false e)

pub get-within : (ks : List (List ℕ)) (a : List ℕ) (n : ℕ) → slice_get ks n ≡ Some a → n < length ks
get-within [] a n at = absurd (let denied : None ≡ Some a = at in cc)
get-within (k ∷ ks) a zero at = omega arith
get-within (k ∷ ks) a (suc n) at = let rest = get-within ks a n at in omega (arith, rest)
