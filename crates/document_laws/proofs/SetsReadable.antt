-- The Pods of sets are such as a manifest gives, and they fit in a list behind the objects.
use Rattle.std.proofs.Common.{◌≡◌, ℕ, suc, zero, ◌+◌, ◌<◌, ◌≤◌, nat_le, true, List, [], ◌∷◌, ◌++◌, length, replicate, codes, refl, sym, ap, subst, ◌∙◌, arith, leb-true, length-append}
use Rattle.std.specs.List.{AllByRecursion}
use Rattle.std.proofs.lemmas.List.{length-replicate}
use Rattle.std.proofs.lemmas.List.Sums.{sum_by-cons}
use Rattle.serde_json.specs.Data.{Data, Items, no_items, item}
use Rattle.serde_json.specs.Find.{get}
use Rattle.kube_objects.specs.declared.key.Key.{Key}
use Rattle.kube_objects.specs.declared.key.Kind.TheVariants as kinds
use Rattle.kube_objects.specs.declared.object.Object.{Object}
use Rattle.manifest_json.specs.declared.codes.TheConstants.{WRONG_TYPE}
use Rattle.manifest_json.specs.declared.scale.Scale.{Scale}
use Rattle.manifest_json.specs.Fields.{Texts, is_name}
use Rattle.manifest_json.specs.Readable.{AreHeld, IsNameNumber, IsReadable, IsReadablePod, IsReadableToleration}
use Rattle.manifest_json.specs.Walk.{kind_count, kind_limit, member_path}
use Rattle.manifest_laws.proofs.FittingItems.{limits-grow}
use Rattle.manifest_laws.proofs.Getting.{Gets, done, refused, weaker, by_test, and_then, skip}
use Rattle.manifest_laws.proofs.Growing.{Grows, Grows-none, Grows-then}
use Rattle.manifest_laws.proofs.ReadFields.{Reads, numbered-reads}
use Rattle.manifest_laws.proofs.ReadItems.{alike-reads, found-reads, IsReadable-grows}
use Rattle.manifest_laws.proofs.ReadableGrows.{all-weaker, all-push, AreHeld-grows, IsNameNumber-grows, IsReadableToleration-grows}
use Rattle.script_reader.specs.declared.parts.Share.{Share}
use Rattle.script_reader.specs.declared.table.Table.TheVariants as tables
use Rattle.script_reader.specs.Fields.{under, object_at, needed_whole, array_in, not_empty}
use Rattle.script_reader.specs.Sets.{Alike, share_at, shares_from, shares_in, shares_at, set_name_at, nodes_of, pods_of, pod_name, pod_of, pod_onto, pods_onto, if_room, set_at, sets_from, sets_in}
use Rattle.script_reader.specs.Tables.{known_in}
use Rattle.document_laws.proofs.FieldRanges.{of_required}
use Rattle.document_laws.proofs.ProcessRanges.{name_at-in, needed_name-in, named-number}
use Rattle.document_laws.proofs.SetNames.{pod_name-is_name}

-- ---- the members of `on`

-- the node of a member is a name
abbrev IsPlaced : Texts → Share → Type 0
IsPlaced names share = IsNameNumber names share.node

placed-grow : {a b : Texts} → Grows a b → (shares : List Share) → AllByRecursion (IsPlaced a) shares → AllByRecursion (IsPlaced b) shares
placed-grow g shares all = all-weaker _ _ shares (λ s h. IsNameNumber-grows g s.node h) all

share-reads : (names : Texts) (path : List ℕ) (value : Data) → Reads names IsPlaced (share_at names path value)
unfolding share_at
share-reads names path value =
    skip (object_at WRONG_TYPE path value) (λ d.
    skip (known_in tables.Share path d) (λ known.
    and_then (needed_name-in path (codes "node") known) (λ text e.
    and_then (named-number names text e) (λ node n.
    skip (needed_whole 1 100000 path (codes "pods") known) (λ pods. done _ n)))))

shares_from-reads : (names : Texts) (path : List ℕ) (place : ℕ) (earlier : List Share) (rest : Items) → AllByRecursion (IsPlaced names) earlier
    → Reads names (λ ns shares. AllByRecursion (IsPlaced ns) shares) (shares_from names path place earlier rest)
unfolding shares_from
shares_from-reads names path place earlier no_items all = done _ (Grows-none names, all)
shares_from-reads names path place earlier (item d rest) all =
    and_then (share-reads names (member_path path (codes "/") place) d) (λ next n.
    weaker (shares_from-reads next.1 path (place + 1) (earlier ++ next.0 ∷ []) rest (all-push _ earlier next.0 (placed-grow n.0 earlier all) n.1))
    (λ r h. (Grows-then n.0 h.0, h.1)))

shares-reads : (names : Texts) (path : List ℕ) (d : Data) → Reads names (λ ns shares. AllByRecursion (IsPlaced ns) shares) (shares_at names path d)
unfolding shares_in
shares-reads names path d =
    of_required (shares_in names (under path (codes "on"))) (under path (codes "on")) (get (codes "on") d) (λ found.
    skip (array_in 15000 (under path (codes "on")) found) (λ all.
    skip (not_empty (under path (codes "on")) all) (λ some. shares_from-reads names (under path (codes "on")) 0 [] some tt)))

-- each node of a pod is that of a member, and there are as many as the members say
all-replicate : (names : Texts) (n : ℕ) (node : ℕ) (rest : List ℕ) → IsNameNumber names node → AllByRecursion (IsNameNumber names) rest → AllByRecursion (IsNameNumber names) (replicate n node ++ rest)
all-replicate names zero node rest one all = all
all-replicate names (suc n) node rest one all = (one, all-replicate names n node rest one all)

nodes-placed : (names : Texts) (shares : List Share) → AllByRecursion (IsPlaced names) shares → AllByRecursion (IsNameNumber names) (nodes_of shares)
nodes-placed names [] all = tt
nodes-placed names (share ∷ rest) all = all-replicate names share.pods share.node (nodes_of rest) all.0 (nodes-placed names rest all.1)

nodes-counted : (shares : List Share) → length (nodes_of shares) ≡ pods_of shares
nodes-counted [] = refl
nodes-counted (share ∷ rest) =
    omega (arith, length-append (replicate share.pods share.node) (nodes_of rest), length-replicate share.pods share.node, nodes-counted rest, sum_by-cons (λ (s : Share). s.pods) share rest)

-- ---- what the pods of a set share

abbrev IsShortName : List ℕ → Type 0
IsShortName text = (is_name text ≡ true) × (length text ≤ 242)

set_name-in : (path : List ℕ) (d : Data) → Gets IsShortName (set_name_at path d)
unfolding set_name_at
set_name-in path d =
    and_then (needed_name-in path (codes "name") d) (λ text e.
    by_test (nat_le (length text) 242) _ _ (λ short. done text (e, leb-true (length text) 242 short)) (λ _. refused _))

record AreLike (names : Texts) (alike : Alike) : Type 0 where
  pub space : IsNameNumber names alike.space
  pub name : IsShortName alike.name
  pub tolerations : AllByRecursion (IsReadableToleration names) alike.tolerations
  pub few : length alike.tolerations ≤ 100

like-grows : {a b : Texts} → Grows a b → (alike : Alike) → AreLike a alike → AreLike b alike
like-grows g alike h = record {
  space = IsNameNumber-grows g alike.space h.space;
  name = h.name;
  tolerations = all-weaker _ _ alike.tolerations (IsReadableToleration-grows g) h.tolerations;
  few = h.few;
}

-- ---- pods

module _ (scale : Scale) (known : List ℕ) where
  abbrev AreReadable : Texts → List (Key × Object) → Type 0
  AreReadable names items = IsReadable scale names known items

  pod-reads : (names : Texts) (path : List ℕ) (alike : Alike) (j : ℕ) (items : List (Key × Object)) (node : ℕ) → AreHeld names known → AreReadable names items
      → AreLike names alike → IsNameNumber names node → j < 450000 → Reads names AreReadable (pod_onto scale names path alike j items node)
  unfolding pod_onto
  pod-reads names path alike j items node held all like placed few =
      and_then (numbered-reads names (pod_name alike.name j)) (λ name n.
      let later = like-grows n.0 alike like in
      let there = IsNameNumber-grows n.0 node placed in
      let pod : IsReadablePod name.1 (pod_of alike name.0 node).0 (record { node = node; tolerations = alike.tolerations }) = record {
        kind = refl;
        space = later.space;
        name = (n.1.0, ap is_name n.1.1 ∙ pod_name-is_name alike.name j like.name.0 like.name.1 (omega (arith, few)));
        node = (there.0, λ _. there.1);
        tolerations = later.tolerations;
        few = later.few;
      } in
      and_then (found-reads scale name.1 known path items (pod_of alike name.0 node) (IsReadable-grows n.0 known held items all) pod) (λ more m.
      done _ (n.0, m)))

  pods-reads : (names : Texts) (path : List ℕ) (alike : Alike) (j : ℕ) (items : List (Key × Object)) (nodes : List ℕ) → AreHeld names known → AreReadable names items
      → AreLike names alike → AllByRecursion (IsNameNumber names) nodes → j + length nodes ≤ 450000 → Reads names AreReadable (pods_onto scale names path alike j items nodes)
  unfolding pods_onto
  pods-reads names path alike j items [] held all like placed few = done _ (Grows-none names, all)
  pods-reads names path alike j items (node ∷ rest) held all like placed few =
      and_then (pod-reads names path alike j items node held all like placed.0 (omega (arith, few))) (λ next n.
      weaker (pods-reads next.1 path alike (j + 1) next.0 rest (AreHeld-grows n.0 known held) n.1 (like-grows n.0 alike like)
      (all-weaker _ _ rest (IsNameNumber-grows n.0) placed.1) (omega (arith, few)))
      (λ r h. (Grows-then n.0 h.0, h.1)))

  -- where there is room the objects stay, and the pods are few
  room-in : (path : List ℕ) (items : List (Key × Object)) (pods : ℕ) → Gets (λ few. (few ≡ items) × (pods ≤ 450000)) (if_room scale path items pods)
  room-in path items pods =
      by_test (nat_le (kind_count kinds.Pod items + pods) (kind_limit scale kinds.Pod)) _ _
      (λ e. done items (refl, omega (arith, leb-true (kind_count kinds.Pod items + pods) (kind_limit scale kinds.Pod) e, limits-grow scale kinds.Pod)))
      (λ _. refused _)

  -- ---- sets

  set-reads : (names : Texts) (path : List ℕ) (items : List (Key × Object)) (value : Data) → AreHeld names known → AreReadable names items
      → Reads names AreReadable (set_at scale names path items value)
  unfolding set_at
  set-reads names path items value held all =
      skip (object_at WRONG_TYPE path value) (λ d.
      skip (known_in tables.PodSet path d) (λ keys.
      and_then (name_at-in (codes "default") path (codes "namespace") keys) (λ text e.
      and_then (named-number names text e) (λ space s.
      and_then (set_name-in path keys) (λ name short.
      and_then (alike-reads space.1 path keys) (λ tolerations t.
      and_then (shares-reads tolerations.1 path keys) (λ on o.
      let g = Grows-then s.0 (Grows-then t.0 o.0) in
      let like : AreLike on.1 (record { space = space.0; name = name; tolerations = tolerations.0 }) = record {
        space = IsNameNumber-grows (Grows-then t.0 o.0) space.0 s.1;
        name = short;
        tolerations = all-weaker _ _ tolerations.0 (IsReadableToleration-grows o.0) t.1.0;
        few = t.1.1;
      } in
      and_then (room-in path items (pods_of on.0)) (λ few f.
      let there : AreReadable on.1 few = subst (AreReadable on.1) (sym f.0) (IsReadable-grows g known held items all) in
      weaker (pods-reads on.1 path (record { space = space.0; name = name; tolerations = tolerations.0 }) 0 few (nodes_of on.0) (AreHeld-grows g known held) there like
      (nodes-placed on.1 on.0 o.1) (omega (arith, nodes-counted on.0, f.1)))
      (λ r h. (Grows-then g h.0, h.1))))))))))

  sets_from-reads : (names : Texts) (place : ℕ) (items : List (Key × Object)) (rest : Items) → AreHeld names known → AreReadable names items
      → Reads names AreReadable (sets_from scale names place items rest)
  unfolding sets_from
  sets_from-reads names place items no_items held all = done _ (Grows-none names, all)
  sets_from-reads names place items (item d rest) held all =
      and_then (set-reads names (member_path [] (codes "/podSets/") place) items d held all) (λ next n.
      weaker (sets_from-reads next.1 (place + 1) next.0 rest (AreHeld-grows n.0 known held) n.1) (λ r h. (Grows-then n.0 h.0, h.1)))

  pub sets-reads : (names : Texts) (items : List (Key × Object)) (d : Data) → AreHeld names known → AreReadable names items
      → Reads names AreReadable (sets_in scale names items d)
  unfolding sets_in
  sets-reads names items d held all = skip (array_in 100000 (codes "/podSets") d) (λ sets. sets_from-reads names 0 items sets held all)
