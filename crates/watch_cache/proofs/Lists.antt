-- What the index's ordered sets list.
use Rattle.std.proofs.Common.{◌≡◌, ℕ, ◌<◌, ◌≤◌, ◌==◌, ◌&&◌, ◌||◌, not, nat_le, Bool, true, false, cond, List, [], ◌∷◌, ◌++◌, filter, refl, sym, ap, ◌∙◌, subst, arith, Less, Equal, Greater, ◌⊎◌, inl, inr}
use Rattle.std.proofs.lemmas.Bool.{cases_order}
use Rattle.std.proofs.lemmas.Bool.Decides.{nat_tests}
use Rattle.std.proofs.lemmas.List.{append-nil}
use Rattle.std.proofs.lemmas.List.Kept.{IsStrictlySortedBy-filter}
use Rattle.std.specs.BTreeSet as set
use Rattle.std.specs.BTreeMap.Range.{range_contains}
use Rattle.std.specs.List.{AllByRecursion, list_any}
use Rattle.std.specs.List.Sorted.{IsStrictlySortedBy}
use Rattle.std.specs.Ordering.{nat_cmp, ordering_then, is_eq, is_gt, is_le}
use Rattle.std.specs.declared.cmp.Ordering.{Ordering}
use Rattle.std.specs.declared.ops.Bound.TheVariants.{Included, Unbounded}
use Rattle.kube_objects.specs.declared.key.Key.{Key}
use Rattle.kube_objects.specs.declared.key.Kind.TheVariants as kind
use Rattle.kube_objects.specs.Feeds.{is_among}
use Rattle.kube_objects.specs.Keys.{key_cmp, key_eq, kind_rank}
use Rattle.kube_objects.specs.contracts.key.KeyOrd.TheImpl as key_ord
use Rattle.kube_objects.proofs.KeyOrder.{key_order, same_key, key_itself}
use Rattle.key_map.proofs.Pairs.{pair_eq, pairs_by}
use Rattle.watch_cache.specs.Listed.{is_named, placed_cmp}
use Rattle.watch_cache.specs.Told.{AreListed}

abbrev pub Pair : Type 0
Pair = ℕ × Key

-- ---- names

named_one : (m n : ℕ) → (m == n) ≡ is_eq (nat_cmp n m)
named_one m n = grind (arith, nat_tests)

pub named_is : (names : List ℕ) (n : ℕ) → is_named names n ≡ list_any (λ m. is_eq (nat_cmp n m)) names
named_is [] n = refl
named_is (m ∷ names) n = ap (λ b. b || is_named names n) (named_one m n) ∙ ap (λ b. is_eq (nat_cmp n m) || b) (named_is names n)

-- ---- the keys of a node

-- the keys of the first pairs, as long as they are of the node
abbrev pub front_of : ℕ → List Pair → List Key
front_of n [] = []
front_of n (p ∷ ps) = cond (p.0 == n) (p.1 ∷ front_of n ps) []

-- a pair from the node's first on
abbrev pub is_from : (Key → Key → Ordering) → Key → ℕ → Pair → Bool
is_from cmp first n p = range_contains (λ a b. ordering_then (nat_cmp a.0 b.0) (cmp a.1 b.1)) (Included (n, first)) Unbounded p

abbrev pub first_key : Key
first_key = record { kind = kind.Node; space = 0; name = 0 }

none_below : (m : ℕ) → is_le (nat_cmp 0 m) ≡ true
none_below m = grind (arith, nat_tests)

then_le : (o p : Ordering) → is_le o ≡ true → is_le p ≡ true → is_le (ordering_then o p) ≡ true
then_le Less p a b = refl
then_le Equal p a b = b
then_le Greater p a b = a

first_is_first : (k : Key) → is_le (key_cmp first_key k) ≡ true
first_is_first k = then_le (nat_cmp 0 (kind_rank k.kind)) _ (none_below (kind_rank k.kind)) (then_le (nat_cmp 0 k.space) (nat_cmp 0 k.name) (none_below k.space) (none_below k.name))

from_is : (n : ℕ) (p : Pair) → is_from key_cmp first_key n p ≡ nat_le n p.0
from_is n p = by_order (nat_cmp n p.0) (key_cmp first_key p.1) (first_is_first p.1) ∙ number_le n p.0
  where
    number_le : (a b : ℕ) → is_le (nat_cmp a b) ≡ nat_le a b
    number_le a b = grind (arith, nat_tests)

    by_order : (o p : Ordering) → is_le p ≡ true → (is_le (ordering_then o p) && not false) ≡ is_le o
    by_order Less p h = refl
    by_order Equal p h = ap (λ b. b && true) h
    by_order Greater p h = refl

-- ---- a pair after another

less_then : (o p : Ordering) → ordering_then o p ≡ Less → is_gt o ≡ false
less_then Less p h = refl
less_then Equal p h = refl
less_then Greater p h = absurd (cc)

number_after : (m n : ℕ) → is_gt (nat_cmp m n) ≡ false → m ≤ n
number_after m n h = grind (arith, nat_tests)

apart : (n m : ℕ) → n < m → (n == m) ≡ false
apart n m h = grind (arith, nat_tests)

apart_from : (n m : ℕ) → n < m → (m == n) ≡ false
apart_from n m h = grind (arith, nat_tests)

-- a pair of a later node isn't the one that is looked for, nor is any after it
later_one : (n : ℕ) (key : Key) (p : Pair) → n < p.0 → is_eq (placed_cmp (n, key) p) ≡ false
later_one n key p later = pair_eq (n, key) p ∙ ap (λ b. b && key_eq key p.1) (apart n p.0 later)

later_all : (n : ℕ) (key : Key) (p : Pair) (ps : List Pair) → n < p.0 → AllByRecursion (λ y. placed_cmp p y ≡ Less) ps → list_any (λ y. is_eq (placed_cmp (n, key) y)) ps ≡ false
later_all n key p [] later all = refl
later_all n key p (y ∷ ps) later all =
    let after : p.0 ≤ y.0 = number_after p.0 y.0 (less_then (nat_cmp p.0 y.0) (key_cmp p.1 y.1) all.0) in
    let beyond : n < y.0 = omega (arith, later, after) in
    ap (λ b. b || list_any (λ y. is_eq (placed_cmp (n, key) y)) ps) (later_one n key y beyond) ∙ later_all n key p ps later all.1

flipped_eq : (a b : Key) → key_eq a b ≡ key_eq b a
flipped_eq a b = by_tests (key_eq a b) (key_eq b a) (λ is. ap (λ k. key_eq k a) (sym (same_key a b is)) ∙ key_itself a) (λ is. ap (λ k. key_eq k b) (sym (same_key b a is)) ∙ key_itself b)
  where
    by_tests : (x y : Bool) → (x ≡ true → y ≡ true) → (y ≡ true → x ≡ true) → x ≡ y
    by_tests true y f g = sym (f refl)
    by_tests false true f g = g refl
    by_tests false false f g = refl

front_cond : (n : ℕ) (t : Bool) (p : Pair) (ps : List Pair) → front_of n (cond t (p ∷ ps) ps) ≡ cond t (cond (p.0 == n) (p.1 ∷ front_of n ps) []) (front_of n ps)
front_cond n true p ps = refl
front_cond n false p ps = refl

-- the list with or without one more key
more : (t e a r : Bool) (k key : Key) (keys : List Key) → is_among keys key ≡ r
    → ((t ≡ true) × ((e ≡ true) × (a ≡ key_eq k key))) ⊎ (((t ≡ false) × (a ≡ false)) ⊎ ((t ≡ true) × ((e ≡ false) × ((a ≡ false) × (r ≡ false)))))
    → is_among (cond t (cond e (k ∷ keys) []) keys) key ≡ (a || r)
more t e a r k key keys rest (inl is) = ap (λ t. is_among (cond t (cond e (k ∷ keys) []) keys) key) is.0 ∙ ap (λ e. is_among (cond e (k ∷ keys) []) key) is.1.0 ∙ ap (λ b. b || is_among keys key) (sym is.1.1) ∙ ap (λ b. a || b) rest
more t e a r k key keys rest (inr (inl is)) = ap (λ t. is_among (cond t (cond e (k ∷ keys) []) keys) key) is.0 ∙ rest ∙ ap (λ b. b || r) (sym is.1)
more t e a r k key keys rest (inr (inr is)) = ap (λ t. is_among (cond t (cond e (k ∷ keys) []) keys) key) is.0 ∙ ap (λ e. is_among (cond e (k ∷ keys) []) key) is.1.0 ∙ sym (ap (λ a. a || r) is.1.1.0 ∙ is.1.1.1)

sorted_first : (p : Pair) (ps : List Pair) → IsStrictlySortedBy placed_cmp (p ∷ ps) → AllByRecursion (λ y. placed_cmp p y ≡ Less) ps × IsStrictlySortedBy placed_cmp ps
unfolding IsStrictlySortedBy
sorted_first p ps s = s

pub front_lists : (n : ℕ) (key : Key) (ps : List Pair) → IsStrictlySortedBy placed_cmp ps → is_among (front_of n (filter (λ p. nat_le n p.0) ps)) key ≡ list_any (λ p. is_eq (placed_cmp (n, key) p)) ps
front_lists n key [] s = refl
front_lists n key (p ∷ ps) s =
    let parts = sorted_first p ps s in
    ap (λ ks. is_among ks key) (front_cond n (nat_le n p.0) p (filter (λ p. nat_le n p.0) ps))
    ∙ more (nat_le n p.0) (p.0 == n) (is_eq (placed_cmp (n, key) p)) (list_any (λ p. is_eq (placed_cmp (n, key) p)) ps) p.1 key (front_of n (filter (λ p. nat_le n p.0) ps)) (front_lists n key ps parts.1) (by_place (cases_order p.0 n) parts.0)
  where
    reached : (a b : ℕ) → a ≡ b → nat_le b a ≡ true
    reached a b is = grind (arith, nat_tests)

    same : (a b : ℕ) → a ≡ b → (a == b) ≡ true
    same a b is = grind (arith, nat_tests)

    before : (a b : ℕ) → a < b → nat_le b a ≡ false
    before a b is = grind (arith, nat_tests)

    past : (a b : ℕ) → b < a → nat_le b a ≡ true
    past a b is = grind (arith, nat_tests)

    unlike : (a b : ℕ) → a < b → (b == a) ≡ false
    unlike a b is = grind (arith, nat_tests)

    by_place : (p.0 ≡ n) ⊎ ((p.0 < n) ⊎ (n < p.0)) → AllByRecursion (λ y. placed_cmp p y ≡ Less) ps
        → ((nat_le n p.0 ≡ true) × (((p.0 == n) ≡ true) × (is_eq (placed_cmp (n, key) p) ≡ key_eq p.1 key)))
        ⊎ (((nat_le n p.0 ≡ false) × (is_eq (placed_cmp (n, key) p) ≡ false))
        ⊎ ((nat_le n p.0 ≡ true) × (((p.0 == n) ≡ false) × ((is_eq (placed_cmp (n, key) p) ≡ false) × (list_any (λ p. is_eq (placed_cmp (n, key) p)) ps ≡ false)))))
    by_place (inl is) all = inl (reached p.0 n is, (same p.0 n is, pair_eq (n, key) p ∙ ap (λ b. b && key_eq key p.1) (same n p.0 (sym is)) ∙ flipped_eq key p.1))
    by_place (inr (inl is)) all = inr (inl (before p.0 n is, pair_eq (n, key) p ∙ ap (λ b. b && key_eq key p.1) (unlike p.0 n is)))
    by_place (inr (inr is)) all = inr (inr (past p.0 n is, (apart_from n p.0 is, (later_one n key p is, later_all n key p ps is all))))

-- ---- they ascend

equal_then : (m n : ℕ) (p : Ordering) → m ≡ n → ordering_then (nat_cmp m n) p ≡ p
equal_then m n p is = ap (λ o. ordering_then o p) (number_same m n is)
  where
    number_same : (m n : ℕ) → m ≡ n → nat_cmp m n ≡ Equal
    number_same m n is = grind (arith, nat_tests)

is_same_number : (m n : ℕ) → (m == n) ≡ true → m ≡ n
is_same_number m n is = grind (arith, nat_tests)

front_above : (n : ℕ) (p : Pair) (ps : List Pair) → p.0 ≡ n → AllByRecursion (λ y. placed_cmp p y ≡ Less) ps → AllByRecursion (λ k. key_cmp p.1 k ≡ Less) (front_of n ps)
front_above n p [] is all = tt
front_above n p (y ∷ ys) is all = by_test (y.0 == n) refl (front_above n p ys is all.1)
  where
    by_test : (b : Bool) → (y.0 == n) ≡ b → AllByRecursion (λ k. key_cmp p.1 k ≡ Less) (front_of n ys) → AllByRecursion (λ k. key_cmp p.1 k ≡ Less) (cond b (y.1 ∷ front_of n ys) [])
    by_test true same rest = (sym (equal_then p.0 y.0 (key_cmp p.1 y.1) (is ∙ sym (is_same_number y.0 n same))) ∙ all.0, rest)
    by_test false other rest = tt

pub front_ascends : (n : ℕ) (ps : List Pair) → IsStrictlySortedBy placed_cmp ps → IsStrictlySortedBy key_cmp (front_of n ps)
unfolding IsStrictlySortedBy
front_ascends n [] s = tt
front_ascends n (p ∷ ps) s = by_test (p.0 == n) refl (front_ascends n ps s.1)
  where
    by_test : (b : Bool) → (p.0 == n) ≡ b → IsStrictlySortedBy key_cmp (front_of n ps) → IsStrictlySortedBy key_cmp (cond b (p.1 ∷ front_of n ps) [])
    by_test true same rest = (front_above n p ps (is_same_number p.0 n same) s.0, rest)
    by_test false other rest = tt

-- the pairs from the node's first on
abbrev pub ranged : ℕ → List Pair → List Pair
ranged n ps = filter (λ p. nat_le n p.0) ps

-- they are those of the range that starts there, by the derived order
pub ranged_is : (n : ℕ) (ps : List Pair) → filter (is_from (key_ord.cmp-value).it first_key n) ps ≡ ranged n ps
ranged_is n ps = ap (λ cmp. filter (is_from cmp first_key n) ps) key_order ∙ ap (λ (test : Pair → Bool). filter test ps) (λ i p. from_is n p i)

-- a pair of another node ends the list
pub front_ends : (n : ℕ) (p : Pair) (ps whole : List Pair) → whole ≡ p ∷ ps → (p.0 == n) ≡ false → front_of n whole ≡ []
front_ends n p ps whole is other = ap (front_of n) is ∙ ap (λ b. cond b (p.1 ∷ front_of n ps) []) other

-- the list is whole where nothing is left to be listed
pub whole_is : (keys rest all : List Key) → rest ≡ [] → keys ++ rest ≡ all → keys ≡ all
whole_is keys rest all none so_far = sym (append-nil keys) ∙ ap (λ ks. keys ++ ks) (sym none) ∙ so_far

pub pods_listed : (n : ℕ) (s : set.BTreeSet Pair) (keys : List Key) → set.IsOrdered (pairs_by (key_ord.cmp-value).it) s → keys ≡ front_of n (ranged n s.keys) → AreListed (λ k. set.contains placed_cmp s (n, k)) keys
pods_listed n s keys ordered is =
    let sorted : IsStrictlySortedBy placed_cmp s.keys = subst (λ cmp. IsStrictlySortedBy (pairs_by cmp) s.keys) key_order ordered in
    record {
      ascend = subst (IsStrictlySortedBy key_cmp) (sym is) (front_ascends n (ranged n s.keys) (IsStrictlySortedBy-filter placed_cmp (λ p. nat_le n p.0) s.keys sorted));
      listed = λ k. ap (λ ks. is_among ks k) is ∙ front_lists n k s.keys sorted;
    }
