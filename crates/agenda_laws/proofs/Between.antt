-- A history between equal ones is equal to them: so where nothing is added, nothing was added on the way.
use Rattle.std.proofs.Common.{◌≡◌, ℕ, ◌≤◌, nat_lt, ◌&&◌, ◌||◌, Bool, true, false, Option, Some, None, List, [], ◌∷◌, length, refl, sym, ap, ◌∙◌, subst, inl, inr, arith}
use Rattle.std.proofs.lemmas.Bool.Decides.{nat_tests}
use Rattle.kube_objects.specs.Entry.{Entry, Identity}
use Rattle.kube_objects.specs.Identities.{identity}
use Rattle.kube_objects.specs.Tick.{for_each}
use Rattle.history.specs.Steps.{if_up}
use Rattle.history_laws.specs.Tails.{IsTail, Among}
use Rattle.history_laws.proofs.Plainly.{true_is, false_is}
use Rattle.history_laws.proofs.Tailed.{tail_all, tail_trans}
use Rattle.agenda_laws.specs.Times.{is_early, sooner}

tail_length : (g h : List Entry) → IsTail g h → length g ≤ length h
tail_length g [] is = let n : length g ≡ 0 = ap length is in omega (arith, n)
tail_length g (e ∷ h) (inl is) = let n : length g ≡ length (e ∷ h) = ap length is in omega (arith, n)
tail_length g (e ∷ h) (inr at) = omega (arith, tail_length g h at)

tail_same : (g h : List Entry) → IsTail g h → length h ≤ length g → g ≡ h
tail_same g [] is most = is
tail_same g (e ∷ h) (inl is) most = is
tail_same g (e ∷ h) (inr at) most = absurd (omega (arith, tail_length g h at, most))

pub between : (g a h : List Entry) → IsTail g a → IsTail a h → h ≡ g → a ≡ g
between g a h low high is = let n : length h ≡ length g = ap length is in sym (tail_same g a low (omega (arith, tail_length a h high, n)))

-- a history isn't one with an entry more
pub longer : (x : Entry) (h g : List Entry) → IsTail (x ∷ h) g → g ≡ h → ⊥
longer x h g at is = let n : length g ≡ length h = ap length is in omega (arith, tail_length (x ∷ h) g at, n)

pub grew : (x : Entry) (h : List Entry) → x ∷ h ≡ h → ⊥
grew x h is = longer x h (x ∷ h) (inl refl) is

-- ---- a step for each of some things

pub each_adds : {A : Type 0} (f : A → List Entry → List Entry) → ((x : A) (h : List Entry) → IsTail h (f x h)) → (xs : List A) (h : List Entry) → IsTail h (for_each f xs h)
each_adds f one [] h = tail_all h
each_adds f one (x ∷ xs) h = tail_trans h (f x h) (for_each f xs (f x h)) (one x h) (each_adds f one xs (f x h))

first_still : {A : Type 0} (f : A → List Entry → List Entry) → ((x : A) (h : List Entry) → IsTail h (f x h)) → (y : A) (ys : List A) (h : List Entry) → for_each f ys (f y h) ≡ h → f y h ≡ h
first_still f one y ys h is = between h (f y h) (for_each f ys (f y h)) (one y h) (each_adds f one ys (f y h)) is

-- they add nothing exactly where each by itself adds nothing
pub each_still : {A : Type 0} (f : A → List Entry → List Entry) → ((x : A) (h : List Entry) → IsTail h (f x h)) → (xs : List A) (h : List Entry) → for_each f xs h ≡ h → (x : A) → Among x xs → f x h ≡ h
each_still f one [] h is x at = absurd at
each_still f one (y ∷ ys) h is x (inl same) = subst (λ z. f z h ≡ h) (sym same) (first_still f one y ys h is)
each_still f one (y ∷ ys) h is x (inr later) = each_still f one ys h (ap (for_each f ys) (sym (first_still f one y ys h is)) ∙ is) x later

pub still_each : {A : Type 0} (f : A → List Entry → List Entry) (xs : List A) (h : List Entry) → ((x : A) → Among x xs → f x h ≡ h) → for_each f xs h ≡ h
still_each f [] h all = refl
still_each f (x ∷ xs) h all = ap (for_each f xs) (all x (inl refl)) ∙ still_each f xs h (λ y at. all y (inr at))

-- ---- where a process is up

pub up_adds : (p : ℕ) (f : Identity → List Entry → List Entry) → ((q : Identity) (h : List Entry) → IsTail h (f q h)) → (o : Option ℕ) (h : List Entry) → IsTail h (if_up p f o h)
up_adds p f one None h = tail_all h
up_adds p f one (Some i) h = one (identity p i) h

-- ---- tests

pub or_none : (a b : Bool) → (a || b) ≡ false → (a ≡ false) × (b ≡ false)
or_none true b is = absurd (true_is is)
or_none false b is = (refl, is)

pub none_or : (a b : Bool) → a ≡ false → b ≡ false → (a || b) ≡ false
none_or a b one two = ap (λ x. x || b) one ∙ two

pub and_none : (a b : Bool) → (a && b) ≡ false → a ≡ true → b ≡ false
and_none true b is one = is
and_none false b is one = absurd (false_is one)

pub none_and : (a b : Bool) → (a ≡ true → b ≡ false) → (a && b) ≡ false
none_and true b none = none refl
none_and false b none = refl

-- before the sooner of two is before both
pub sooner_both : (now : ℕ) (a b : Option ℕ) → is_early now (sooner a b) ≡ true → (is_early now a ≡ true) × (is_early now b ≡ true)
sooner_both now None b is = (refl, is)
sooner_both now (Some a) None is = (is, refl)
sooner_both now (Some a) (Some b) is =
    let one : nat_lt now a ≡ true = grind (arith, nat_tests) in
    let two : nat_lt now b ≡ true = grind (arith, nat_tests) in (one, two)

pub both_sooner : (now : ℕ) (a b : Option ℕ) → is_early now a ≡ true → is_early now b ≡ true → is_early now (sooner a b) ≡ true
both_sooner now None b one two = two
both_sooner now (Some a) None one two = one
both_sooner now (Some a) (Some b) one two = grind (arith, nat_tests)

-- what is before the same numbers is the same
never_before : (now : ℕ) → nat_lt now now ≡ true → ⊥
never_before now is = grind (arith, nat_tests)

pub early_same : (a b : Option ℕ) → ((now : ℕ) → is_early now a ≡ is_early now b) → a ≡ b
early_same None None each = refl
early_same None (Some b) each = absurd (never_before b (sym (each b)))
early_same (Some a) None each = absurd (never_before a (each a))
early_same (Some a) (Some b) each = ap Some (by_tests (nat_lt a b) (nat_lt b a) refl refl)
  where
    by_tests : (x y : Bool) → nat_lt a b ≡ x → nat_lt b a ≡ y → a ≡ b
    by_tests true y one other = absurd (never_before a (each a ∙ one))
    by_tests false true one other = absurd (never_before b (sym (each b) ∙ other))
    by_tests false false one other = grind (arith, nat_tests)
