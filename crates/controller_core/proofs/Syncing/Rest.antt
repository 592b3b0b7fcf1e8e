-- What is left to judge.
use Rattle.std.proofs.Common.{◌≡◌, ◌∙◌, ℕ, zero, suc, ◌+◌, add-one, drop, slice_get, ◌==◌, ◌&&◌, ◌||◌, not, Bool, true, false, List, [], ◌∷◌, Option, Some, None, refl, sym, ap, subst, arith}
use Rattle.std.proofs.lemmas.Bool.{eqb-true}
use Rattle.std.proofs.lemmas.Bool.Decides.{nat_tests}
use Rattle.std.specs.BTreeSet.{BTreeSet, contains}
use Rattle.std.specs.Ordering.{nat_cmp}
use Rattle.kube_base.specs.declared.numbers.Version.{Version}
use Rattle.kube_objects.specs.declared.key.Key.{Key}
use Rattle.kube_objects.specs.declared.key.Kind.TheVariants as kind
use Rattle.kube_objects.specs.declared.pod.Pod.{Pod}
use Rattle.kube_objects.specs.Entry.{Entry, Identity}
use Rattle.kube_objects.specs.Feeds.{is_among}
use Rattle.kube_objects.specs.Keys.{key_eq}
use Rattle.kube_objects.specs.Seen.{is_pod, seen_pod}
use Rattle.kube_objects.specs.Stored.{node_key}
use Rattle.kube_objects.proofs.KeyOrder.{same_key}
use Rattle.history_laws.proofs.Plainly.{false_is}
use Rattle.tick_laws.proofs.Frames.{node_eq, node_no_pod, pod_no_node}
use Rattle.watch_cache.specs.Kept.{is_on}
use Rattle.term_state.specs.declared.cluster.Cluster.{Cluster}
use Rattle.term_state.specs.ClusterStands.{ClusterBut, ClusterStands, but_node, but_pod, no_node, no_pod}
use Rattle.term_state.specs.Taking.{is_on_open, is_open}
use Rattle.term_state.proofs.Widen.{widen}
use Rattle.controller_core.specs.Left.{LeftBut}

or_parts : (a b : Bool) → (a || b) ≡ false → (a ≡ false) × (b ≡ false)
or_parts true b is = absurd (false_is (sym is))
or_parts false b is = (refl, is)

and_true : (b : Bool) → (b && true) ≡ b
and_true true = refl
and_true false = refl

turned : (a b : ℕ) → (a == b) ≡ (b == a)
turned a b = grind (arith, nat_tests)

-- ---- keys

-- a key that is no node's
pub apart : (key : Key) (n : ℕ) → (key ≡ node_key n → ⊥) → key_eq key (node_key n) ≡ false
apart key n differ = by_test (key_eq key (node_key n)) refl
  where
    by_test : (b : Bool) → key_eq key (node_key n) ≡ b → b ≡ false
    by_test true same = absurd (differ (same_key key (node_key n) same))
    by_test false is = refl

pub lease_apart : (key : Key) → key.kind ≡ kind.Lease → (n : ℕ) → key_eq key (node_key n) ≡ false
lease_apart key is n = apart key n (λ same. differ (sym (ap (λ k. k.kind) same) ∙ is))
  where
    differ : kind.Node ≡ kind.Lease → ⊥
    differ same = cc

pub space_apart : (key : Key) → (key.space ≡ 0 → ⊥) → (n : ℕ) → key_eq key (node_key n) ≡ false
space_apart key differ n = apart key n (λ same. differ (ap (λ k. k.space) same))

pub node_is : (key : Key) → key.kind ≡ kind.Node → key.space ≡ 0 → key ≡ node_key key.name
node_is key kind_is space_is = λ i. record { kind = kind_is i; space = space_is i; name = key.name }

-- ---- a node was judged, with the pods on it

node_tests : (here there : Bool) → there ≡ false → ((here || there) && not here) ≡ false
node_tests true there out = refl
node_tests false there out = ap (λ b. b && true) out

none_of : (a b : Bool) → a ≡ false → b ≡ false → (a || b) ≡ false
none_of a b out other = ap (λ c. c || b) out ∙ other

on_tests : (on later test : Bool) → (later && test) ≡ false → (((on || later) && test) && not on) ≡ false
on_tests true later true out = refl
on_tests true later false out = refl
on_tests false later test out = ap (λ b. b && true) out

both_tests : (own on : Bool) (x : Bool) → own ≡ false → (x && not on) ≡ false → ((own || x) && not on) ≡ false
both_tests own on x nothing out = ap (λ b. (b || x) && not on) nothing ∙ out

-- no pod's key is a node's
own_none : (name : ℕ) (p : Key) (there : Bool) → (is_pod p.kind && there) ≡ false → (is_pod p.kind && (key_eq (node_key name) p || there)) ≡ false
own_none name p there out = by_kind (is_pod p.kind) refl out
  where
    by_kind : (b : Bool) → is_pod p.kind ≡ b → (b && there) ≡ false → (b && (key_eq (node_key name) p || there)) ≡ false
    by_kind true kind nothing = ap (λ b. b || there) (node_no_pod name p kind) ∙ nothing
    by_kind false kind nothing = refl

-- what isn't of the rest, and isn't on the node, isn't open
node_closed : (q : Identity) (g : List Entry) (name : ℕ) (rest : List Key) (names : BTreeSet ℕ) (p : Key) → is_open q g rest (contains nat_cmp names) p ≡ false
    → (is_open q g (node_key name ∷ rest) (contains nat_cmp names) p && not (is_on name (seen_pod q p g))) ≡ false
node_closed q g name rest names p out =
    both_tests (is_pod p.kind && (key_eq (node_key name) p || is_among rest p)) (is_on name (seen_pod q p g)) (is_on_open (node_key name ∷ rest) test (seen_pod q p g))
    (own_none name p (is_among rest p) (or_parts (is_pod p.kind && is_among rest p) (is_on_open rest test (seen_pod q p g)) out).0)
    (by_pod (seen_pod q p g) (or_parts (is_pod p.kind && is_among rest p) (is_on_open rest test (seen_pod q p g)) out).1)
  where
    test : ℕ → Bool
    test = contains nat_cmp names

    by_pod : (o : Option (Version × Pod)) → is_on_open rest test o ≡ false → (is_on_open (node_key name ∷ rest) test o && not (is_on name o)) ≡ false
    by_pod None out = refl
    by_pod (Some x) out =
        ap (λ b. ((b || is_among rest (node_key x.1.node)) && test x.1.node) && not (x.1.node == name)) (node_eq name x.1.node ∙ turned name x.1.node)
        ∙ on_tests (x.1.node == name) (is_among rest (node_key x.1.node)) (test x.1.node) out

pub node_open : (q : Identity) (g : List Entry) (name : ℕ) (rest : List Key) (names : BTreeSet ℕ) (p : Key) → is_on name (seen_pod q p g) ≡ false → is_open q g rest (contains nat_cmp names) p ≡ false
    → is_open q g (node_key name ∷ rest) (contains nat_cmp names) p ≡ false
node_open q g name rest names p off out =
    sym (and_true (is_open q g (node_key name ∷ rest) (contains nat_cmp names) p))
    ∙ ap (λ b. is_open q g (node_key name ∷ rest) (contains nat_cmp names) p && not b) (sym off)
    ∙ node_closed q g name rest names p out

pub next_node : (q : Identity) (g : List Entry) (name : ℕ) (rest : List Key) (names : BTreeSet ℕ) (c : Cluster)
    → ClusterBut q g (but_node name (λ n. is_among (node_key name ∷ rest) (node_key n))) (λ p. is_open q g (node_key name ∷ rest) (contains nat_cmp names) p && not (is_on name (seen_pod q p g))) c
    → LeftBut q g rest names c
next_node q g name rest names c s =
    widen q g (but_node name (λ n. is_among (node_key name ∷ rest) (node_key n))) (λ n. is_among rest (node_key n)) (λ p. is_open q g (node_key name ∷ rest) test p && not (is_on name (seen_pod q p g))) (is_open q g rest test) c
    (λ n out. ap (λ b. (b || is_among rest (node_key n)) && not (name == n)) (node_eq name n) ∙ node_tests (name == n) (is_among rest (node_key n)) out)
    (λ p out. node_closed q g name rest names p out) s
  where
    test : ℕ → Bool
    test = contains nat_cmp names

-- ---- a node was judged alone, and isn't among the names

pub alone_open : (q : Identity) (g : List Entry) (name : ℕ) (rest : List Key) (names : BTreeSet ℕ) → contains nat_cmp names name ≡ false → (p : Key) → is_open q g rest (contains nat_cmp names) p ≡ false
    → is_open q g (node_key name ∷ rest) (contains nat_cmp names) p ≡ false
alone_open q g name rest names none p out =
    none_of (is_pod p.kind && (key_eq (node_key name) p || is_among rest p)) (is_on_open (node_key name ∷ rest) test (seen_pod q p g))
    (own_none name p (is_among rest p) (or_parts (is_pod p.kind && is_among rest p) (is_on_open rest test (seen_pod q p g)) out).0)
    (by_pod (seen_pod q p g) (or_parts (is_pod p.kind && is_among rest p) (is_on_open rest test (seen_pod q p g)) out).1)
  where
    test : ℕ → Bool
    test = contains nat_cmp names

    by_name : (node : ℕ) (b : Bool) → (name == node) ≡ b → (is_among rest (node_key node) && test node) ≡ false → ((b || is_among rest (node_key node)) && test node) ≡ false
    by_name node true same out = subst (λ n. test n ≡ false) (eqb-true name node same) none
    by_name node false apart out = out

    by_pod : (o : Option (Version × Pod)) → is_on_open rest test o ≡ false → is_on_open (node_key name ∷ rest) test o ≡ false
    by_pod None out = refl
    by_pod (Some x) out = ap (λ b. (b || is_among rest (node_key x.1.node)) && test x.1.node) (node_eq name x.1.node) ∙ by_name x.1.node (name == x.1.node) refl out

pub next_alone : (q : Identity) (g : List Entry) (name : ℕ) (rest : List Key) (names : BTreeSet ℕ) (c : Cluster) → contains nat_cmp names name ≡ false
    → ClusterBut q g (but_node name (λ n. is_among (node_key name ∷ rest) (node_key n))) (is_open q g (node_key name ∷ rest) (contains nat_cmp names)) c → LeftBut q g rest names c
next_alone q g name rest names c none s =
    widen q g (but_node name (λ n. is_among (node_key name ∷ rest) (node_key n))) (λ n. is_among rest (node_key n)) (is_open q g (node_key name ∷ rest) test) (is_open q g rest test) c
    (λ n out. ap (λ b. (b || is_among rest (node_key n)) && not (name == n)) (node_eq name n) ∙ node_tests (name == n) (is_among rest (node_key n)) out)
    (alone_open q g name rest names none) s
  where
    test : ℕ → Bool
    test = contains nat_cmp names

-- ---- a pod was judged

no_node_open : (key : Key) (rest : List Key) (test : ℕ → Bool) (o : Option (Version × Pod)) → ((n : ℕ) → key_eq key (node_key n) ≡ false) → is_on_open (key ∷ rest) test o ≡ is_on_open rest test o
no_node_open key rest test None differs = refl
no_node_open key rest test (Some x) differs = ap (λ b. (b || is_among rest (node_key x.1.node)) && test x.1.node) (differs x.1.node)

-- what isn't of the rest, and isn't this pod, isn't open
pod_closed : (q : Identity) (g : List Entry) (key : Key) (rest : List Key) (names : BTreeSet ℕ) → is_pod key.kind ≡ true → (p : Key) → is_open q g rest (contains nat_cmp names) p ≡ false
    → (is_open q g (key ∷ rest) (contains nat_cmp names) p && not (key_eq key p)) ≡ false
pod_closed q g key rest names kind p out =
    ap (λ b. ((is_pod p.kind && (key_eq key p || is_among rest p)) || b) && not (key_eq key p)) (no_node_open key rest (contains nat_cmp names) (seen_pod q p g) (λ n. pod_no_node key n kind))
    ∙ by_tests (is_pod p.kind) (key_eq key p) (is_among rest p) (is_on_open rest (contains nat_cmp names) (seen_pod q p g)) out
  where
    and_false : (b : Bool) → (b && false) ≡ false
    and_false true = refl
    and_false false = refl

    by_tests : (k here there on : Bool) → ((k && there) || on) ≡ false → (((k && (here || there)) || on) && not here) ≡ false
    by_tests k true there on out = and_false ((k && true) || on)
    by_tests k false there on out = and_true ((k && there) || on) ∙ out

pub pod_open : (q : Identity) (g : List Entry) (key : Key) (rest : List Key) (names : BTreeSet ℕ) → is_pod key.kind ≡ true → (p : Key) → key_eq key p ≡ false → is_open q g rest (contains nat_cmp names) p ≡ false
    → is_open q g (key ∷ rest) (contains nat_cmp names) p ≡ false
pod_open q g key rest names kind p apart out =
    sym (and_true (is_open q g (key ∷ rest) (contains nat_cmp names) p))
    ∙ ap (λ b. is_open q g (key ∷ rest) (contains nat_cmp names) p && not b) (sym apart)
    ∙ pod_closed q g key rest names kind p out

pub next_pod : (q : Identity) (g : List Entry) (key : Key) (rest : List Key) (names : BTreeSet ℕ) (c : Cluster) → is_pod key.kind ≡ true
    → ClusterBut q g (λ n. is_among (key ∷ rest) (node_key n)) (but_pod key (is_open q g (key ∷ rest) (contains nat_cmp names))) c → LeftBut q g rest names c
next_pod q g key rest names c kind s =
    widen q g (λ n. is_among (key ∷ rest) (node_key n)) (λ n. is_among rest (node_key n)) (but_pod key (is_open q g (key ∷ rest) (contains nat_cmp names))) (is_open q g rest (contains nat_cmp names)) c
    (λ n out. ap (λ b. b || is_among rest (node_key n)) (pod_no_node key n kind) ∙ out)
    (pod_closed q g key rest names kind) s

-- ---- a key of neither

pub other_open : (q : Identity) (g : List Entry) (key : Key) (rest : List Key) (names : BTreeSet ℕ) → ((n : ℕ) → key_eq key (node_key n) ≡ false) → is_pod key.kind ≡ false
    → (p : Key) → is_open q g rest (contains nat_cmp names) p ≡ false → is_open q g (key ∷ rest) (contains nat_cmp names) p ≡ false
other_open q g key rest names differs kind p out =
    ap (λ b. (is_pod p.kind && (key_eq key p || is_among rest p)) || b) (no_node_open key rest (contains nat_cmp names) (seen_pod q p g) differs)
    ∙ ap (λ b. b || is_on_open rest (contains nat_cmp names) (seen_pod q p g)) (by_kind p (is_pod p.kind) refl) ∙ out
  where
    other : (p : Key) → is_pod p.kind ≡ true → (b : Bool) → key_eq key p ≡ b → b ≡ false
    other p pod true same = absurd (false_is (sym (ap (λ x. is_pod x.kind) (sym (same_key key p same)) ∙ kind) ∙ pod))
    other p pod false differ = refl

    by_kind : (p : Key) (b : Bool) → is_pod p.kind ≡ b → (b && (key_eq key p || is_among rest p)) ≡ (b && is_among rest p)
    by_kind p true pod = ap (λ b. b || is_among rest p) (other p pod (key_eq key p) refl)
    by_kind p false pod = refl

pub next_other : (q : Identity) (g : List Entry) (key : Key) (rest : List Key) (names : BTreeSet ℕ) (c : Cluster) → ((n : ℕ) → key_eq key (node_key n) ≡ false) → is_pod key.kind ≡ false
    → LeftBut q g (key ∷ rest) names c → LeftBut q g rest names c
next_other q g key rest names c differs kind s =
    widen q g (λ n. is_among (key ∷ rest) (node_key n)) (λ n. is_among rest (node_key n)) (is_open q g (key ∷ rest) (contains nat_cmp names)) (is_open q g rest (contains nat_cmp names)) c
    (λ n out. ap (λ b. b || is_among rest (node_key n)) (differs n) ∙ out)
    (other_open q g key rest names differs kind) s

-- ---- the rest of the changes

some_same : (a b : Key) → ◌≡◌ {A = Option Key} (Some a) (Some b) → a ≡ b
some_same a b is = cc

pub next_drop : (keys : List Key) (n : ℕ) (key : Key) → slice_get keys n ≡ Some key → drop n keys ≡ key ∷ drop (n + 1) keys
next_drop keys n key is = by_place keys n is ∙ ap (λ m. key ∷ drop m keys) (sym (add-one n))
  where
    by_place : (keys : List Key) (n : ℕ) → slice_get keys n ≡ Some key → drop n keys ≡ key ∷ drop (suc n) keys
    by_place [] n is = absurd (cc)
    by_place (k ∷ ks) zero is = ap (λ x. x ∷ ks) (some_same k key is)
    by_place (k ∷ ks) (suc n) is = by_place ks n is

-- nothing is open any more
pub none_open : (q : Identity) (g : List Entry) (names : BTreeSet ℕ) (p : Key) → is_open q g [] (contains nat_cmp names) p ≡ false
none_open q g names p = by_pod (is_pod p.kind) (seen_pod q p g)
  where
    by_pod : (b : Bool) (o : Option (Version × Pod)) → ((b && is_among [] p) || is_on_open [] (contains nat_cmp names) o) ≡ false
    by_pod true None = refl
    by_pod true (Some x) = refl
    by_pod false None = refl
    by_pod false (Some x) = refl

pub end_left : (q : Identity) (g : List Entry) (keys : List Key) (names : BTreeSet ℕ) (c : Cluster) → keys ≡ [] → LeftBut q g keys names c → ClusterStands q g c
end_left q g keys names c empty s = widen q g (λ n. is_among [] (node_key n)) no_node (is_open q g [] (contains nat_cmp names)) no_pod c (λ n is. refl) (λ p is. none_open q g names p) (subst (λ xs. LeftBut q g xs names c) empty s)
