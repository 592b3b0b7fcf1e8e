-- What holds of each element of a list.
use Rattle.std.proofs.Common.{◌≡◌, ℕ, zero, suc, Bool, true, false, cond, List, [], ◌∷◌, ◌++◌, map, filter, slice_get, Some, subst}
use Rattle.std.specs.List.{AllByRecursion}
use Rattle.std.specs.declared.cmp.Ordering.{Ordering}
use Rattle.std.specs.declared.cmp.Ordering.TheVariants.{Less, Equal, Greater}
use Rattle.kube_objects.specs.Seen.{insert_once}
use Rattle.history_laws.proofs.Plainly.{some_is, none_is}

pub all_append : {A : Type 0} (P : A → Type 0) (xs ys : List A) → AllByRecursion P xs → AllByRecursion P ys → AllByRecursion P (xs ++ ys)
all_append P [] ys a b = b
all_append P (x ∷ xs) ys a b = (a.0, all_append P xs ys a.1 b)

pub all_filter : {A : Type 0} (P : A → Type 0) (test : A → Bool) (xs : List A) → AllByRecursion P xs → AllByRecursion P (filter test xs)
all_filter P test [] all = tt
all_filter P test (x ∷ xs) all = by_test (test x) (all_filter P test xs all.1)
  where
    by_test : (b : Bool) → AllByRecursion P (filter test xs) → AllByRecursion P (cond b (x ∷ filter test xs) (filter test xs))
    by_test true rest = (all.0, rest)
    by_test false rest = rest

pub all_map : {A : Type 0} (P : A → Type 0) (f : A → A) (xs : List A) → ((x : A) → P x → P (f x)) → AllByRecursion P xs → AllByRecursion P (map f xs)
all_map P f [] keeps all = tt
all_map P f (x ∷ xs) keeps all = (keeps x all.0, all_map P f xs keeps all.1)

pub all_at : {A : Type 0} (P : A → Type 0) (xs : List A) (i : ℕ) (x : A) → AllByRecursion P xs → slice_get xs i ≡ Some x → P x
all_at P [] i x all is = absurd (none_is x is)
all_at P (y ∷ xs) zero x all is = subst P (some_is y x is) all.0
all_at P (y ∷ xs) (suc i) x all is = all_at P xs i x all.1 is

pub all_once : {A : Type 0} (compare : A → A → Ordering) (P : A → Type 0) (x : A) (ys : List A) → P x → AllByRecursion P ys → AllByRecursion P (insert_once compare x ys)
all_once compare P x [] new old = (new, tt)
all_once compare P x (y ∷ ys) new old = by_order (compare x y) (all_once compare P x ys new old.1)
  where
    by_order : (o : Ordering) → AllByRecursion P (insert_once compare x ys) → AllByRecursion P (elim o [ Less ↦ x ∷ y ∷ ys | Equal ↦ y ∷ ys | Greater ↦ y ∷ insert_once compare x ys ])
    by_order Less later = (new, old)
    by_order Equal later = old
    by_order Greater later = (old.0, later)
