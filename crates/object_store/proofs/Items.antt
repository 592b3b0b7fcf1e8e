-- The store's objects as a list in the order of keys.
use Rattle.std.proofs.Common.{◌≡◌, ℕ, ◌+◌, ◌<◌, Bool, true, false, cond, ◌||◌, List, [], ◌∷◌, ◌++◌, Option, Some, None}
use Rattle.std.proofs.Common.{length, take, get_or, refl, sym, ap, ◌∙◌, subst, append_assoc, Less}
use Rattle.std.proofs.lemmas.List.{append-nil, take_more}
use Rattle.std.proofs.lemmas.List.Folds.{list_any-append}
use Rattle.std.specs.BTreeSet.{BTreeSet, contains, Updates}
use Rattle.std.specs.List.{AllByRecursion, list_any}
use Rattle.std.specs.List.Sorted.{IsStrictlySortedBy}
use Rattle.std.specs.Map.{keys_of, lookup}
use Rattle.kube_base.specs.declared.numbers.Version.{Version}
use Rattle.kube_objects.specs.contracts.key.KeyOrd.TheImpl as key_ord
use Rattle.kube_objects.specs.declared.key.Key.{Key}
use Rattle.kube_objects.specs.declared.object.Object.{Object}
use Rattle.kube_objects.specs.Entry.{Entry}
use Rattle.kube_objects.specs.Feeds.{is_among}
use Rattle.kube_objects.specs.Keys.{key_cmp, key_eq}
use Rattle.kube_objects.specs.Newest.{has}
use Rattle.kube_objects.specs.Stored.{Held, stored}
use Rattle.kube_objects.proofs.KeyOrder.{key_order, same_key}
use Rattle.key_map.specs.Values.{value_at}
use Rattle.object_store.specs.Kept.{Objects}
use Rattle.object_store.specs.declared.store.Store.{Store}
use Rattle.object_store.specs.Stands.{StoreStands, object_in_pair}
use Rattle.object_store.specs.StoreAnswers.{kept_of, object_of}

-- ---- the keys of the changes

-- one more key was added to a set
keys_more : (old new : BTreeSet Key) (key : Key) (before : List Key) → Updates (key_ord.cmp-value).it old new key true
    → ((q : Key) → contains key_cmp old q ≡ is_among before q) → (q : Key) → contains key_cmp new q ≡ is_among (before ++ key ∷ []) q
keys_more old new key before u so_far q =
    (subst (λ cmp. Updates cmp old new key true) key_order u).0 q
    ∙ ap (cond (key_eq key q) true) (so_far q)
    ∙ by_test (key_eq key q) (is_among before q)
    ∙ sym (list_any-append (λ k. key_eq k q) before (key ∷ []))
  where
    by_test : (b c : Bool) → cond b true c ≡ (c || (b || false))
    by_test true true = refl
    by_test true false = refl
    by_test false true = refl
    by_test false false = refl

-- the same along a list
pub keys_step : (old new : BTreeSet Key) (xs changes : List Key) (i : ℕ) (d : Key) → xs ≡ changes → i < length xs
    → Updates (key_ord.cmp-value).it old new (get_or xs i d) true
    → ((q : Key) → contains key_cmp old q ≡ is_among (take i changes) q)
    → (q : Key) → contains key_cmp new q ≡ is_among (take (i + 1) changes) q
keys_step old new xs changes i d same below u so_far q =
    keys_more old new (get_or xs i d) (take i changes) u so_far q
    ∙ ap (λ ys. is_among (take i changes ++ get_or ys i d ∷ []) q) same
    ∙ ap (λ keys. is_among keys q) (sym (take_more changes i d (subst (λ ys. i < length ys) same below)))

-- ---- the objects under keys

-- a list of objects, with what is stored under one more key before it
abbrev pub and_kept : Key → Option (Version × Object) → List (Key × Object) → List (Key × Object)
and_kept key None items = items
and_kept key (Some x) items = (key, x.1) ∷ items

-- what is stored under keys, in their order
abbrev pub listed : Objects → List Key → List (Key × Object)
listed objects [] = []
listed objects (key ∷ keys) = and_kept key (value_at objects key) (listed objects keys)

-- an object is stored under the next key
pub listed_more : (objects : Objects) (items whole : List (Key × Object)) (key : Key) (x : Version × Object) (left rest : List Key)
    → left ≡ key ∷ rest → Some x ≡ value_at objects key
    → items ++ listed objects left ≡ whole → (items ++ (key, x.1) ∷ []) ++ listed objects rest ≡ whole
listed_more objects items whole key x left rest is there so_far =
    append_assoc items ((key, x.1) ∷ []) (listed objects rest)
    ∙ ap (λ o. items ++ and_kept key o (listed objects rest)) there
    ∙ ap (λ keys. items ++ listed objects keys) (sym is)
    ∙ so_far

-- nothing is stored under it
pub listed_past : (objects : Objects) (items whole : List (Key × Object)) (key : Key) (left rest : List Key)
    → left ≡ key ∷ rest → None ≡ value_at objects key
    → items ++ listed objects left ≡ whole → items ++ listed objects rest ≡ whole
listed_past objects items whole key left rest is none so_far =
    ap (λ o. items ++ and_kept key o (listed objects rest)) none
    ∙ ap (λ keys. items ++ listed objects keys) (sym is)
    ∙ so_far

-- all items
pub items-whole : (objects : Objects) (items : List (Key × Object)) (whole left : List Key)
    → left ≡ [] → items ++ listed objects left ≡ listed objects whole → items ≡ listed objects whole
items-whole objects items whole left is so_far =
    sym (append-nil items) ∙ ap (λ keys. items ++ listed objects keys) (sym is) ∙ so_far

-- ---- they ascend

all-listed : (P : Key → Type 0) (objects : Objects) (keys : List Key) → AllByRecursion P keys
    → AllByRecursion P (keys_of (listed objects keys))
all-listed P objects [] all = tt
all-listed P objects (key ∷ keys) all = by_kept (value_at objects key) all.0 (all-listed P objects keys all.1)
  where
    by_kept : (o : Option (Version × Object)) → P key → AllByRecursion P (keys_of (listed objects keys))
        → AllByRecursion P (keys_of (and_kept key o (listed objects keys)))
    by_kept None one rest = rest
    by_kept (Some x) one rest = (one, rest)

sorted-listed : (objects : Objects) (keys : List Key) → IsStrictlySortedBy key_cmp keys
    → IsStrictlySortedBy key_cmp (keys_of (listed objects keys))
unfolding IsStrictlySortedBy
sorted-listed objects [] sorted = tt
sorted-listed objects (key ∷ keys) sorted =
    by_kept (value_at objects key) (all-listed (λ other. key_cmp key other ≡ Less) objects keys sorted.0)
    (sorted-listed objects keys sorted.1)
  where
    by_kept : (o : Option (Version × Object)) → AllByRecursion (λ other. key_cmp key other ≡ Less) (keys_of (listed objects keys))
        → IsStrictlySortedBy key_cmp (keys_of (listed objects keys))
        → IsStrictlySortedBy key_cmp (keys_of (and_kept key o (listed objects keys)))
    by_kept None above rest = rest
    by_kept (Some x) above rest = (above, rest)

pub items-ascend : (objects : Objects) (keys : List Key) → IsStrictlySortedBy (key_ord.cmp-value).it keys
    → IsStrictlySortedBy key_cmp (keys_of (listed objects keys))
items-ascend objects keys sorted = sorted-listed objects keys (subst (λ cmp. IsStrictlySortedBy cmp keys) key_order sorted)

-- ---- they are what is stored

-- a key under which nothing is stored is passed
none_here : (same among : Bool) (o : Option (Version × Object)) → (same ≡ true → o ≡ None)
    → cond among (object_in_pair o) None ≡ cond (same || among) (object_in_pair o) None
none_here false among o f = refl
none_here true among o f = ap (λ o. cond among (object_in_pair o) None) (f refl) ∙ neither among ∙ sym (ap object_in_pair (f refl))
  where
    neither : (b : Bool) → cond b (object_in_pair None) None ≡ object_in_pair None
    neither true = refl
    neither false = refl

one_here : (same among : Bool) (o : Option (Version × Object)) (x : Version × Object) (later : Option Object)
    → (same ≡ true → o ≡ Some x) → later ≡ cond among (object_in_pair o) None
    → cond same (Some x.1) later ≡ cond (same || among) (object_in_pair o) None
one_here false among o x later f is = is
one_here true among o x later f is = sym (ap object_in_pair (f refl))

pub lookup-listed : (objects : Objects) (q : Key) (keys : List Key)
    → lookup (key_eq q) (listed objects keys) ≡ cond (list_any (key_eq q) keys) (object_in_pair (value_at objects q)) None
lookup-listed objects q [] = refl
lookup-listed objects q (key ∷ keys) =
    by_kept (value_at objects key) (λ same. ap (value_at objects) (same_key q key same)) (lookup-listed objects q keys)
  where
    by_kept : (o : Option (Version × Object)) → (key_eq q key ≡ true → value_at objects q ≡ o)
        → lookup (key_eq q) (listed objects keys) ≡ cond (list_any (key_eq q) keys) (object_in_pair (value_at objects q)) None
        → lookup (key_eq q) (and_kept key o (listed objects keys))
        ≡ cond (key_eq q key || list_any (key_eq q) keys) (object_in_pair (value_at objects q)) None
    by_kept None same later = later ∙ none_here (key_eq q key) (list_any (key_eq q) keys) (value_at objects q) same
    by_kept (Some x) same later =
        one_here (key_eq q key) (list_any (key_eq q) keys) (value_at objects q) x (lookup (key_eq q) (listed objects keys)) same later

in_pair-kept : (x : Option Held) → object_in_pair (kept_of x) ≡ object_of x
in_pair-kept None = refl
in_pair-kept (Some x) = refl

-- what is stored stands among the changes
among-all : (o : Option (Version × Object)) (among : Bool) → (has o ≡ true → among ≡ true)
    → cond among (object_in_pair o) None ≡ object_in_pair o
among-all None true f = refl
among-all None false f = refl
among-all (Some x) among f = ap (λ b. cond b (Some x.1) None) (f refl)

pub items-stored : (h : List Entry) (s : Store) (keys : BTreeSet Key) (key : Key) → StoreStands h s
    → contains key_cmp keys key ≡ is_among s.changes.items key
    → cond (contains key_cmp keys key) (object_in_pair (value_at s.objects key)) None ≡ object_of (stored key h)
items-stored h s keys key stands has_key =
    ap (λ b. cond b (object_in_pair (value_at s.objects key)) None) has_key
    ∙ among-all (value_at s.objects key) (is_among s.changes.items key) (s.among key)
    ∙ ap object_in_pair (stands.objects key)
    ∙ in_pair-kept (stored key h)
