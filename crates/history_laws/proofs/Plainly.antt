-- Small facts of membership, options, tests and identities.
use Rattle.std.proofs.Common.{◌≡◌, ℕ, ◌+◌, ◌==◌, ◌&&◌, ◌||◌, not, Bool, true, false, List, ◌∷◌, Option, Some, None, IfSome, refl, sym, subst, inl, inr, arith, ◌≤◌}
use Rattle.std.proofs.lemmas.Bool.{eqb-true}
use Rattle.std.proofs.lemmas.Bool.Decides.{nat_tests}
use Rattle.kube_objects.specs.Entry.{Entry, Identity}
use Rattle.kube_objects.specs.Identities.{is_same}
use Rattle.kube_objects.specs.Newest.{newest, added}
use Rattle.history_laws.specs.Tails.{In}

-- how `newest` reads an entry: its own word, else what is below
abbrev pub upper : {A : Type 0} → Option A → Option A → Option A
upper x y = elim x [ None ↦ y | Some z ↦ Some z ]

pub newest_is : {A : Type 0} (f : Entry → List Entry → Option A) (e : Entry) (h : List Entry) → newest f (e ∷ h) ≡ upper (f e h) (newest f h)
newest_is f e h = refl

-- what holds of the new entry and of the old ones holds of each
pub for_new : (P : Entry → Type 0) (x : Entry) (h : List Entry) → P x → ((e : Entry) → In e h → P e) → (e : Entry) → In e (x ∷ h) → P e
for_new P x h new old e (inl is) = subst P (sym is) new
for_new P x h new old e (inr at) = old e at

-- what follows from a fact on old entries
pub for_old : (P Q : Entry → Type 0) (h : List Entry) → ((e : Entry) → P e → Q e) → ((e : Entry) → In e h → P e) → (e : Entry) → In e h → Q e
for_old P Q h more old e at = more e (old e at)

pub if_some : {A : Type 0} (x : Option A) (P Q : A → Type 0) → ((a : A) → P a → Q a) → IfSome x P → IfSome x Q
if_some None P Q more h = tt
if_some (Some a) P Q more h = more a h

pub false_is : false ≡ true → ⊥
false_is h = cc

pub true_is : true ≡ false → ⊥
true_is h = cc

pub and_left : (a b : Bool) → (a && b) ≡ true → a ≡ true
and_left true b h = refl
and_left false b h = h

pub and_right : (a b : Bool) → (a && b) ≡ true → b ≡ true
and_right true b h = h
and_right false b h = absurd (false_is h)

pub and_both : (a b : Bool) → a ≡ true → b ≡ true → (a && b) ≡ true
and_both true b ha hb = hb
and_both false b ha hb = absurd (false_is ha)

pub or_left : (a b : Bool) → (a || b) ≡ false → a ≡ false
or_left true b is = is
or_left false b is = refl

pub or_right : (a b : Bool) → (a || b) ≡ false → b ≡ false
or_right true b is = absurd (true_is is)
or_right false b is = is

pub or_none : (a b : Bool) → a ≡ false → b ≡ false → (a || b) ≡ false
or_none true b left right = left
or_none false b left right = right

pub not_true : (a : Bool) → not a ≡ true → a ≡ false
not_true true h = absurd (false_is h)
not_true false h = refl

pub identity_eq : (a b : Identity) → a.process ≡ b.process → a.incarnation ≡ b.incarnation → a ≡ b
identity_eq a b p i = λ j. record { process = p j; incarnation = i j }

pub same_is : (a b : Identity) → is_same a b ≡ true → a ≡ b
same_is a b h = identity_eq a b (eqb-true _ _ (and_left (a.process == b.process) (a.incarnation == b.incarnation) h)) (eqb-true _ _ (and_right (a.process == b.process) (a.incarnation == b.incarnation) h))

pub same_self : (q : Identity) → is_same q q ≡ true
same_self q = grind (arith, nat_tests)

pub some_is : {A : Type 0} (a b : A) → Some a ≡ Some b → a ≡ b
some_is a b h = cc

pub none_is : {A : Type 0} (a : A) → None ≡ Some a → ⊥
none_is a h = cc

pub added_more : (b : Bool) (n : ℕ) → n ≤ added b n
added_more true n = omega arith
added_more false n = omega arith

pub added_one : (b : Bool) (n : ℕ) → added b n ≤ n + 1
added_one true n = omega arith
added_one false n = omega arith
