-- How many pods are listed for a node.
use Rattle.std.proofs.Common.{◌≡◌, ◌∙◌, ℕ, ◌≤◌, ◌+◌, ◌||◌, Bool, true, false, cond, List, [], ◌∷◌, Option, Some, None, Result, Ok, Err, OnOk, inl, inr, length, count_by, refl, sym, ap, subst, arith, Less, Equal, Greater}
use Rattle.std.specs.List.Sorted.{IsStrictlySortedBy}
use Rattle.std.specs.List.{AllByRecursion}
use Rattle.std.proofs.lemmas.Cmp.{tied_itself}
use Rattle.std.proofs.lemmas.List.Sums.{count_by-le-length, sum_by-cons}
use Rattle.std.specs.declared.cmp.Ordering.{Ordering}
use Rattle.kube_base.specs.declared.numbers.Version.{Version}
use Rattle.kube_objects.specs.declared.key.Key.{Key}
use Rattle.kube_objects.specs.declared.pod.Pod.{Pod}
use Rattle.kube_objects.specs.Entry.{Entry, Identity}
use Rattle.kube_objects.specs.Feeds.{is_among}
use Rattle.kube_objects.specs.Keys.{key_cmp, key_eq}
use Rattle.kube_objects.specs.Newest.{has}
use Rattle.kube_objects.specs.Seen.{pod_keys, seen_pod}
use Rattle.kube_objects.proofs.KeyOrder.{key_itself, same_key}
use Rattle.history_laws.proofs.Plainly.{false_is}
use Rattle.tick_laws.specs.Steps.{pods_on}
use Rattle.tick_laws.specs.Walks.{Above, Among, Ascends}
use Rattle.tick_laws.proofs.Named.{pod_is_named, pod_keys_ascend}
use Rattle.tick_laws.proofs.Orders.{keys_strict}
use Rattle.tick_laws.proofs.Walks.{above_less}
use Rattle.watch_cache.specs.Kept.{is_on}
use Rattle.watch_cache.specs.Told.{AreListed}
use Rattle.term_state.specs.ClusterStands.{HaveKinds}

pub on_ok_always : {A E : Type 0} {P : Type 0} (r : Result A E) → P → OnOk r P
on_ok_always (Ok x) p = p
on_ok_always (Err e) p = tt

all_above : (key : Key) (keys : List Key) → AllByRecursion (λ y. key_cmp key y ≡ Less) keys → Above key_cmp key keys
all_above key [] all = tt
all_above key (k ∷ ks) all = (all.0, all_above key ks all.1)

ascends : (keys : List Key) → IsStrictlySortedBy key_cmp keys → Ascends key_cmp keys
unfolding IsStrictlySortedBy
ascends [] sorted = tt
ascends (k ∷ ks) sorted = (all_above k ks sorted.0, ascends ks sorted.1)

among_is : (key : Key) (keys : List Key) → Among key keys → is_among keys key ≡ true
among_is key [] there = absurd there
among_is key (k ∷ ks) (inl is) = ap (λ b. b || is_among ks key) (subst (λ y. key_eq y key ≡ true) is (key_itself key))
among_is key (k ∷ ks) (inr there) = ap (λ b. key_eq k key || b) (among_is key ks there) ∙ or_true (key_eq k key)
  where
    or_true : (b : Bool) → (b || true) ≡ true
    or_true true = refl
    or_true false = refl

less_apart : (a b : Key) → key_cmp a b ≡ Less → a ≡ b → ⊥
less_apart a b less is = unequal (sym less ∙ subst (λ y. key_cmp a y ≡ Equal) is (tied_itself keys_strict.total a))
  where
    unequal : Less ≡ Equal → ⊥
    unequal same = cc

-- the keys of one list in order that pass a test are no more than those of another that has them all
few : (test : Key → Bool) (all keys : List Key) → Ascends key_cmp keys → Ascends key_cmp all → ((k : Key) → Among k keys → (test k ≡ true) × Among k all) → length keys ≤ count_by test all
few test [] [] a b m = omega arith
few test [] (k ∷ ks) a b m = absurd (m k (inl refl)).1
few test (y ∷ ys) [] a b m = omega arith
few test (y ∷ ys) (k ∷ ks) a b m = by_order (key_cmp y k) refl (few test ys)
  where
    Rest : Type 0
    Rest = (keys : List Key) → Ascends key_cmp keys → Ascends key_cmp ys → ((j : Key) → Among j keys → (test j ≡ true) × Among j ys) → length keys ≤ count_by test ys

    cons : count_by test (y ∷ ys) ≡ cond (test y) 1 0 + count_by test ys
    cons = sum_by-cons (λ x. cond (test x) 1 0) y ys

    no_more : (n : ℕ) (b : Bool) → n ≤ count_by test ys → n ≤ cond b 1 0 + count_by test ys
    no_more n true le = omega (arith, le)
    no_more n false le = omega (arith, le)

    still : (j : Key) → key_cmp y j ≡ Less → Among j (y ∷ ys) → Among j ys
    still j less (inl is) = absurd (less_apart y j less (sym is))
    still j less (inr there) = there

    after_first : key_cmp y k ≡ Less → (j : Key) → Among j (k ∷ ks) → key_cmp y j ≡ Less
    after_first less j (inl is) = subst (λ x. key_cmp y x ≡ Less) (sym is) less
    after_first less j (inr there) = keys_strict.total.trans y k j less (above_less key_cmp keys_strict j k ks there a.0)

    greater_apart : key_cmp y k ≡ Greater → Among k (y ∷ ys) → ⊥
    greater_apart greater (inl is) = unequal (sym (subst (λ x. key_cmp y x ≡ Equal) (sym is) (tied_itself keys_strict.total y)) ∙ greater)
      where
        unequal : Equal ≡ Greater → ⊥
        unequal same = cc
    greater_apart greater (inr there) = unequal (sym (above_less key_cmp keys_strict k y ys there b.0) ∙ greater)
      where
        unequal : Less ≡ Greater → ⊥
        unequal same = cc

    by_order : (o : Ordering) → key_cmp y k ≡ o → Rest → length (k ∷ ks) ≤ count_by test (y ∷ ys)
    by_order Less less rest =
        subst (λ n. length (k ∷ ks) ≤ n) (sym cons)
        (no_more (length (k ∷ ks)) (test y) (rest (k ∷ ks) a b.1 (λ j at. ((m j at).0, still j (after_first less j at) (m j at).1))))
    by_order Equal equal rest =
        let is : y ≡ k = keys_strict.same y k equal in
        let passes : test y ≡ true = ap test is ∙ (m k (inl refl)).0 in
        let others : length ks ≤ count_by test ys = rest ks a.1 b.1 (λ j at. ((m j (inr at)).0, still j (subst (λ x. key_cmp x j ≡ Less) (sym is) (above_less key_cmp keys_strict j k ks at a.0)) (m j (inr at)).1)) in
        subst (λ n. length (k ∷ ks) ≤ n) (sym (cons ∙ ap (λ t. cond t 1 0 + count_by test ys) passes)) (omega (arith, others))
    by_order Greater greater rest = absurd (greater_apart greater (m k (inl refl)).1)

some_of : {A : Type 0} (o : Option A) → has o ≡ true → (x : A) × (o ≡ Some x)
some_of None there = absurd (false_is there)
some_of (Some x) there = (x, refl)

on_has : (name : ℕ) (o : Option (Version × Pod)) → is_on name o ≡ true → has o ≡ true
on_has name None on = on
on_has name (Some x) on = refl

-- so many pods are on the node
pub listed_few : (q : Identity) (h : List Entry) (name : ℕ) (keys : List Key) → HaveKinds q h
    → AreListed (λ key. is_on name (seen_pod q key h)) keys → length keys ≤ pods_on q name h
listed_few q h name keys kinds l = few (λ key. is_on name (seen_pod q key h)) (pod_keys h) keys (ascends keys l.ascend) (pod_keys_ascend h) member
  where
    member : (key : Key) → Among key keys → (is_on name (seen_pod q key h) ≡ true) × Among key (pod_keys h)
    member key at =
        let on : is_on name (seen_pod q key h) ≡ true = sym (l.listed key) ∙ among_is key keys at in
        let there = on_has name (seen_pod q key h) on in
        let found = some_of (seen_pod q key h) there in
        (on, pod_is_named q key h found.0 (kinds.pods key there) found.1)

-- ---- and as many

-- those of a list that pass a test
abbrev keep : (Key → Bool) → List Key → List Key
keep test [] = []
keep test (k ∷ ks) = cond (test k) (k ∷ keep test ks) (keep test ks)

keep_counts : (test : Key → Bool) (ks : List Key) → count_by test ks ≡ length (keep test ks)
keep_counts test [] = refl
keep_counts test (k ∷ ks) = sum_by-cons (λ x. cond (test x) 1 0) k ks ∙ by_test (test k) (keep_counts test ks)
  where
    by_test : (b : Bool) → count_by test ks ≡ length (keep test ks) → cond b 1 0 + count_by test ks ≡ length (cond b (k ∷ keep test ks) (keep test ks))
    by_test true is = omega (arith, is)
    by_test false is = omega (arith, is)

kept_above : (test : Key → Bool) (key : Key) (ks : List Key) → Above key_cmp key ks → Above key_cmp key (keep test ks)
kept_above test key [] above = tt
kept_above test key (k ∷ ks) above = by_test (test k) (kept_above test key ks above.1)
  where
    by_test : (b : Bool) → Above key_cmp key (keep test ks) → Above key_cmp key (cond b (k ∷ keep test ks) (keep test ks))
    by_test true rest = (above.0, rest)
    by_test false rest = rest

kept_ascend : (test : Key → Bool) (ks : List Key) → Ascends key_cmp ks → Ascends key_cmp (keep test ks)
kept_ascend test [] a = tt
kept_ascend test (k ∷ ks) a = by_test (test k) (kept_ascend test ks a.1)
  where
    by_test : (b : Bool) → Ascends key_cmp (keep test ks) → Ascends key_cmp (cond b (k ∷ keep test ks) (keep test ks))
    by_test true rest = (kept_above test k ks a.0, rest)
    by_test false rest = rest

kept_pass : (test : Key → Bool) (key : Key) (ks : List Key) → Among key (keep test ks) → test key ≡ true
kept_pass test key [] there = absurd there
kept_pass test key (k ∷ ks) there = by_test (test k) refl there (kept_pass test key ks)
  where
    by_test : (b : Bool) → test k ≡ b → Among key (cond b (k ∷ keep test ks) (keep test ks)) → (Among key (keep test ks) → test key ≡ true) → test key ≡ true
    by_test true is (inl same) rest = ap test same ∙ is
    by_test true is (inr later) rest = rest later
    by_test false is later rest = rest later

among_of : (key : Key) (keys : List Key) → is_among keys key ≡ true → Among key keys
among_of key [] is = absurd (false_is is)
among_of key (k ∷ ks) is = by_test (key_eq k key) refl is (among_of key ks)
  where
    by_test : (b : Bool) → key_eq k key ≡ b → (b || is_among ks key) ≡ true → (is_among ks key ≡ true → Among key ks) → Among key (k ∷ ks)
    by_test true same is rest = inl (sym (same_key k key same))
    by_test false other is rest = inr (rest is)

-- the pods on the node are just those that are listed
pub listed_all : (q : Identity) (h : List Entry) (name : ℕ) (keys : List Key) → HaveKinds q h
    → AreListed (λ key. is_on name (seen_pod q key h)) keys → length keys ≡ pods_on q name h
listed_all q h name keys kinds l =
    let one = listed_few q h name keys kinds l in
    let two : length (keep test (pod_keys h)) ≤ count_by (λ key. true) keys =
    few (λ key. true) keys (keep test (pod_keys h)) (kept_ascend test (pod_keys h) (pod_keys_ascend h)) (ascends keys l.ascend)
    (λ key at. (refl, among_of key keys (l.listed key ∙ kept_pass test key (pod_keys h) at))) in
    omega (arith, one, two, keep_counts test (pod_keys h), count_by-le-length (λ (key : Key). true) keys)
  where
    test : Key → Bool
    test key = is_on name (seen_pod q key h)
