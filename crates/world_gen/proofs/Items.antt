-- The objects of a generated document: their keys, and how many there are of each kind.
use Rattle.std.proofs.Common.{◌≡◌, ℕ, zero, suc, ◌+◌, ◌<◌, ◌≤◌, ◌==◌, ◌&&◌, ◌||◌, not, nat_lt, Bool, true, false, List, [], ◌∷◌, ◌++◌, map, cond, refl, sym, ap, ap₂, subst, ◌∙◌, arith, inl, inr, append_assoc}
use Rattle.std.proofs.lemmas.Bool.{cases_Bool}
use Rattle.std.proofs.lemmas.Bool.Decides.{nat_tests}
use Rattle.std.proofs.lemmas.List.Sums.{sum_by-append}
use Rattle.std.specs.List.{range_with_len, AllByRecursion}
use Rattle.rand_pcg.specs.Lcg.{Lcg}
use Rattle.kube_objects.specs.Keys.{key_eq, kind_rank}
use Rattle.kube_objects.proofs.KeyOrder.{same_key}
use Rattle.kube_objects.specs.declared.key.Key.{Key}
use Rattle.kube_objects.specs.declared.key.Kind.{Kind}
use Rattle.kube_objects.specs.declared.key.Kind.TheVariants as kinds
use Rattle.kube_objects.specs.declared.object.Object.{Object}
use Rattle.kube_objects.specs.Kinds.{IsOfKind}
use Rattle.manifest_json.specs.Readable.{items_fit}
use Rattle.manifest_json.specs.declared.scale.Scale.TheVariants as scales
use Rattle.manifest_json.specs.Walk.{has_key, kind_count, kind_limit}
use Rattle.world_gen.specs.declared.pod.Placing.{Placing}
use Rattle.world_gen.specs.Numbers.{pod_number}
use Rattle.world_gen.specs.Draws.{placing}
use Rattle.world_gen.specs.Generated.{node_item, node_items, pod_item, pod_items}

-- ---- keys: the numbers of names rise

abbrev AreBelow : ℕ → List (Key × Object) → Type 0
AreBelow next [] = Unit {0}
AreBelow next (x ∷ xs) = (x.0.name < next) × AreBelow next xs

abbrev Rising : ℕ → List (Key × Object) → Type 0
Rising next [] = Unit {0}
Rising next (x ∷ xs) = (next ≤ x.0.name) × Rising (x.0.name + 1) xs

below-push : (next more : ℕ) (xs : List (Key × Object)) (x : Key × Object) → AreBelow next xs → next ≤ more → x.0.name < more
    → AreBelow more (xs ++ x ∷ [])
below-push next more [] x h le lt = (lt, tt)
below-push next more (y ∷ ys) x h le lt = let first = h.0 in (omega arith, below-push next more ys x h.1 le lt)

rising-push : (next : ℕ) (xs : List (Key × Object)) (x : Key × Object) → Rising next xs → AreBelow x.0.name xs → next ≤ x.0.name
    → Rising next (xs ++ x ∷ [])
rising-push next [] x h below le = (le, tt)
rising-push next (y ∷ ys) x h below le = let first = below.0 in (h.0, rising-push (y.0.name + 1) ys x h.1 below.1 (omega arith))

unseen : (key : Key) (xs : List (Key × Object)) → AreBelow key.name xs → has_key key xs ≡ false
unseen key [] h = refl
unseen key (x ∷ xs) h = elim (cases_Bool (key_eq x.0 key)) [
  | inl same ↦ let names = ap (λ k. k.name) (same_key x.0 key same) in let first = h.0 in absurd (omega arith)
  | inr other ↦ ap (λ b. b || has_key key xs) other ∙ unseen key xs h.1
]

-- ---- counts

count-append : (kind : Kind) (xs ys : List (Key × Object)) → kind_count kind (xs ++ ys) ≡ kind_count kind xs + kind_count kind ys
count-append kind xs ys = sum_by-append (λ y. cond (kind_rank kind == kind_rank y.0.kind) 1 0) xs ys

count-more : (kind : Kind) (x : Key × Object) (ys : List (Key × Object))
    → kind_count kind (x ∷ ys) ≡ cond (kind_rank kind == kind_rank x.0.kind) 1 0 + kind_count kind ys
count-more kind x ys = count-append kind (x ∷ []) ys ∙ omega arith

itself : (n : ℕ) → (n == n) ≡ true
itself n = grind (arith, nat_tests)

count-one : (x : Key × Object) (ys : List (Key × Object)) → kind_count x.0.kind (x ∷ ys) ≡ 1 + kind_count x.0.kind ys
count-one x ys = count-more x.0.kind x ys ∙ ap (λ b. cond b 1 0 + kind_count x.0.kind ys) (itself (kind_rank x.0.kind))

three : (a b c : Bool) → a ≡ true → b ≡ true → c ≡ true → (a && b && c) ≡ true
three a b c x y z = rw (x, y, z) refl

pub items-fit : (next : ℕ) (earlier xs : List (Key × Object)) → AreBelow next earlier → Rising next xs
    → ((kind : Kind) → kind_count kind (earlier ++ xs) ≤ kind_limit scales.Large kind) → items_fit scales.Large earlier xs ≡ true
items-fit next earlier [] below rising few = refl
items-fit next earlier (x ∷ xs) below rising few =
    three (not (has_key x.0 earlier)) (nat_lt (kind_count x.0.kind earlier) (kind_limit scales.Large x.0.kind)) (items_fit scales.Large (earlier ++ x ∷ []) xs)
    (ap not (unseen x.0 earlier (lower next x.0.name earlier rising.0 below)))
    (let counts = count-append x.0.kind earlier (x ∷ xs) in let one = count-one x xs in let most = few x.0.kind in
    grind (arith, nat_tests, counts, one, most))
    (items-fit (x.0.name + 1) (earlier ++ x ∷ []) xs
    (below-push next (x.0.name + 1) earlier x below (let le = rising.0 in omega arith) (omega arith)) rising.1
    (λ kind. subst (λ l. kind_count kind l ≤ kind_limit scales.Large kind) (sym (append_assoc earlier (x ∷ []) xs)) (few kind)))
  where
    lower : (m n : ℕ) (ys : List (Key × Object)) → m ≤ n → AreBelow m ys → AreBelow n ys
    lower m n [] le h = tt
    lower m n (y ∷ ys) le h = let first = h.0 in (omega arith, lower m n ys le h.1)

-- ---- the nodes

nodes-rise : (nodes start n : ℕ) → Rising (13 + start) (map (node_item nodes) (range_with_len start n))
nodes-rise nodes start zero = tt
nodes-rise nodes start (suc n) = (
  omega arith,
  subst (λ k. Rising k (map (node_item nodes) (range_with_len (start + 1) n))) (omega arith)
      (nodes-rise nodes (start + 1) n),
)

nodes-below : (nodes start n most : ℕ) → 13 + start + n ≤ most → AreBelow most (map (node_item nodes) (range_with_len start n))
nodes-below nodes start zero most le = tt
nodes-below nodes start (suc n) most le = (omega arith, nodes-below nodes (start + 1) n most (omega arith))

-- one more of a kind or of another
counted-more : (b : Bool) (n : ℕ) → cond b 1 0 + cond b n 0 ≡ cond b (suc n) 0
counted-more true n = omega arith
counted-more false n = refl

counted-none : (b : Bool) → ◌≡◌ {A = ℕ} 0 (cond b 0 0)
counted-none true = refl
counted-none false = refl

nodes-count : (kind : Kind) (nodes start n : ℕ)
    → kind_count kind (map (node_item nodes) (range_with_len start n)) ≡ cond (kind_rank kind == 0) n 0
nodes-count kind nodes start zero = counted-none (kind_rank kind == 0)
nodes-count kind nodes start (suc n) =
    count-more kind (node_item nodes start) (map (node_item nodes) (range_with_len (start + 1) n))
    ∙ ap (λ m. cond (kind_rank kind == 0) 1 0 + m) (nodes-count kind nodes (start + 1) n)
    ∙ counted-more (kind_rank kind == 0) n

nodes-of_kind : (nodes start n : ℕ) → AllByRecursion (λ item. IsOfKind item.0 item.1) (map (node_item nodes) (range_with_len start n))
nodes-of_kind nodes start zero = tt
nodes-of_kind nodes start (suc n) = (refl, nodes-of_kind nodes (start + 1) n)

-- ---- the Pods

abbrev first_pod : ℕ → ℕ
first_pod nodes = pod_number nodes 0

record PodsStand (nodes j : ℕ) (items : List (Key × Object)) : Type 0 where
  rising : Rising (first_pod nodes) items
  below : AreBelow (pod_number nodes j) items
  counts : (kind : Kind) → kind_count kind items ≡ cond (kind_rank kind == 2) j 0
  of_kind : AllByRecursion (λ item. IsOfKind item.0 item.1) items

one-more : (kind : Kind) (nodes j : ℕ) (at : Placing) (items : List (Key × Object)) → kind_count kind items ≡ cond (kind_rank kind == 2) j 0
    → kind_count kind (items ++ pod_item nodes j at ∷ []) ≡ cond (kind_rank kind == 2) (suc j) 0
one-more kinds.Node nodes j at items h = count-append kinds.Node items (pod_item nodes j at ∷ []) ∙ omega (arith, h)
one-more kinds.Lease nodes j at items h = count-append kinds.Lease items (pod_item nodes j at ∷ []) ∙ omega (arith, h)
one-more kinds.Pod nodes j at items h = count-append kinds.Pod items (pod_item nodes j at ∷ []) ∙ omega (arith, h)

of_kind-push : (xs : List (Key × Object)) (x : Key × Object) → AllByRecursion (λ item. IsOfKind item.0 item.1) xs → IsOfKind x.0 x.1
    → AllByRecursion (λ item. IsOfKind item.0 item.1) (xs ++ x ∷ [])
of_kind-push [] x all one = (one, tt)
of_kind-push (y ∷ ys) x all one = (all.0, of_kind-push ys x all.1 one)

pods-stand : (nodes j : ℕ) (g : Lcg) → PodsStand nodes j (pod_items nodes j g).value
unfolding pod_items
pods-stand nodes zero g = record { rising = tt; below = tt; counts = λ kind. counted-none (kind_rank kind == 2); of_kind = tt }
pods-stand nodes (suc j) g =
    let before = pods-stand nodes j g in
    let items = (pod_items nodes j g).value in
    let at = (placing nodes (pod_items nodes j g).rest).value in
    record {
      rising = rising-push (first_pod nodes) items (pod_item nodes j at) before.rising before.below (omega arith);
      below =
          below-push (pod_number nodes j) (pod_number nodes (suc j)) items (pod_item nodes j at) before.below (omega arith) (omega arith);
      counts = λ kind. one-more kind nodes j at items (before.counts kind);
      of_kind = of_kind-push items (pod_item nodes j at) before.of_kind refl;
    }

-- ---- all objects

rising-append : (next mid : ℕ) (xs ys : List (Key × Object)) → Rising next xs → AreBelow mid xs → next ≤ mid → Rising mid ys
    → Rising next (xs ++ ys)
rising-append next mid [] [] h below le more = tt
rising-append next mid [] (y ∷ ys) h below le more = let first = more.0 in (omega arith, more.1)
rising-append next mid (x ∷ xs) ys h below le more =
    let first = below.0 in (h.0, rising-append (x.0.name + 1) mid xs ys h.1 below.1 (omega arith) more)

of_kind-append : (xs ys : List (Key × Object)) → AllByRecursion (λ item. IsOfKind item.0 item.1) xs
    → AllByRecursion (λ item. IsOfKind item.0 item.1) ys
    → AllByRecursion (λ item. IsOfKind item.0 item.1) (xs ++ ys)
of_kind-append [] ys left right = right
of_kind-append (x ∷ xs) ys left right = (left.0, of_kind-append xs ys left.1 right)

module _ (nodes pods : ℕ) (g : Lcg) where
  abbrev pub all_items : List (Key × Object)
  all_items = node_items nodes ++ (pod_items nodes pods g).value

  pub all-of_kind : AllByRecursion (λ item. IsOfKind item.0 item.1) all_items
  all-of_kind = of_kind-append (node_items nodes) _ (nodes-of_kind nodes 0 nodes) (pods-stand nodes pods g).of_kind

  all-counts : (kind : Kind) → kind_count kind all_items ≡ cond (kind_rank kind == 0) nodes 0 + cond (kind_rank kind == 2) pods 0
  all-counts kind =
      count-append kind (node_items nodes) (pod_items nodes pods g).value
      ∙ ap₂ (λ m n. m + n) (nodes-count kind nodes 0 nodes) ((pods-stand nodes pods g).counts kind)

  pub all-few : nodes ≤ 1000 → pods ≤ 30000 → (kind : Kind) → kind_count kind all_items ≤ kind_limit scales.Large kind
  all-few few fewer kinds.Node = omega (arith, all-counts kinds.Node)
  all-few few fewer kinds.Lease = omega (arith, all-counts kinds.Lease)
  all-few few fewer kinds.Pod = omega (arith, all-counts kinds.Pod)

  pub all-fit : nodes ≤ 1000 → pods ≤ 30000 → items_fit scales.Large [] all_items ≡ true
  all-fit few fewer =
      items-fit 0 [] all_items tt
      (rising-append 0 (first_pod nodes) (node_items nodes) _ (from_zero (node_items nodes) (nodes-rise nodes 0 nodes))
      (nodes-below nodes 0 nodes (first_pod nodes) (omega arith)) (omega arith)
      (pods-stand nodes pods g).rising)
      (all-few few fewer)
    where
      from_zero : (xs : List (Key × Object)) → Rising 13 xs → Rising 0 xs
      from_zero [] h = tt
      from_zero (x ∷ xs) h = (omega arith, h.1)
