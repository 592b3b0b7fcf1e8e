-- The Pods of sets are those that the sets say.
use Rattle.std.proofs.Common.{◌≡◌, ℕ, zero, suc, ◌+◌, nat_le, nat_lt, ◌&&◌, List, [], ◌∷◌, ◌++◌, length, replicate, codes, Option, Some, None, option_and_then, unwrap_or, Result, Ok, ℤ, refl, sym, ap, subst, ◌∙◌, append_assoc}
use Rattle.std.proofs.lemmas.List.{append-nil}
use Rattle.serde_json.specs.Data.{Data, Items, no_items, item}
use Rattle.serde_json.specs.Find.{get, as_array, as_number, as_object, as_str, as_u64, as_i64}
use Rattle.kube_objects.specs.declared.key.Key.{Key}
use Rattle.kube_objects.specs.declared.key.Kind.TheVariants as kinds
use Rattle.kube_objects.specs.declared.object.Object.{Object}
use Rattle.manifest_json.specs.declared.codes.TheConstants.{WRONG_TYPE}
use Rattle.manifest_json.specs.declared.fault.Refusal.{Refusal}
use Rattle.manifest_json.specs.declared.scale.Scale.{Scale}
use Rattle.manifest_json.specs.Fields.{Texts, is_name, or_refuse}
use Rattle.manifest_json.specs.Walk.{has_key, items_len, kind_count, kind_limit, member_path, tolerations_under, with_found}
use Rattle.manifest_laws.proofs.Getting.{Gets, done, refused, weaker, by_test, and_then}
use Rattle.manifest_laws.proofs.Growing.{Grows, Grows-none, Grows-then, IsHeld-grows, text_of-grows}
use Rattle.manifest_laws.proofs.ReadFields.{Reads, numbered-reads}
use Rattle.manifest_laws.proofs.ReadItems.{alike-reads}
use Rattle.script_reader.specs.declared.parts.Share.{Share}
use Rattle.script_reader.specs.declared.table.Table.{Table}
use Rattle.script_reader.specs.declared.table.Table.TheVariants as tables
use Rattle.script_reader.specs.Fields.{under, default_of, required, whole_or, needed_whole, text_in, if_name, needed_name, name_at, array_in, not_empty}
use Rattle.script_reader.specs.Sets.{Alike, share_at, shares_from, shares_in, shares_at, set_name_at, nodes_of, pods_of, if_short, pod_name, pod_of, pod_onto, pods_onto, if_room, set_at, sets_from, sets_in}
use Rattle.script_reader.specs.Tables.{is_key_of, known_in, knows_members}
use Rattle.document_laws.proofs.Scales.{object-same}
use Rattle.document_laws.specs.WrittenOut.{some_text, some_number, some_items, Said, nodes_said, pods_said, set_said, sets_said, IsText, AreBorne, IsPod, ArePods}

-- ---- texts and numbers under a key

text-found : (code : ℕ) (path : List ℕ) (s : Option (List ℕ)) → Gets (λ t. t ≡ unwrap_or s []) (or_refuse s code path)
text-found code path None = refused _
text-found code path (Some t) = done t refl

name-same : (path text : List ℕ) → Gets (λ t. t ≡ text) (if_name path text)
name-same path text = by_test (is_name text) _ _ (λ _. done text refl) (λ _. refused _)

name-said : (default path key : List ℕ) (d : Data) → Gets (λ t. t ≡ some_text default (get key d)) (name_at default path key d)
unfolding name_at
name-said default path key d = and_then (by (get key d)) (λ text same. weaker (name-same (under path key) text) (λ t is. is ∙ same))
  where
    by : (o : Option Data) → Gets (λ t. t ≡ some_text default o) (default_of default (text_in (under path key)) o)
    by None = done default refl
    by (Some found) = text-found WRONG_TYPE (under path key) (as_str found)

needed-said : (path key : List ℕ) (d : Data) → Gets (λ t. t ≡ some_text [] (get key d)) (needed_name path key d)
unfolding needed_name
needed-said path key d = and_then (by (get key d)) (λ text same. weaker (name-same (under path key) text) (λ t is. is ∙ same))
  where
    by : (o : Option Data) → Gets (λ t. t ≡ some_text [] o) (required (under path key) (text_in (under path key)) o)
    by None = refused _
    by (Some found) = text-found WRONG_TYPE (under path key) (as_str found)

whole-said : (least most : ℕ) (path key : List ℕ) (d : Data) → Gets (λ n. n ≡ some_number (get key d)) (needed_whole least most path key d)
whole-said least most path key d = by (get key d)
  where
    found : (whole : Option ℕ) (signed : Option ℤ) → Gets (λ n. n ≡ unwrap_or whole 0) (whole_or least most (under path key) whole signed)
    found None None = refused _
    found None (Some n) = refused _
    found (Some n) signed = by_test (nat_le least n && nat_le n most) _ _ (λ _. done n refl) (λ _. refused _)

    by : (o : Option Data) → Gets (λ n. n ≡ some_number o) (required (under path key) (λ d. whole_or least most (under path key) (option_and_then as_u64 (as_number d)) (option_and_then as_i64 (as_number d))) o)
    by None = refused _
    by (Some d) = found (option_and_then as_u64 (as_number d)) (option_and_then as_i64 (as_number d))

array-said : (most : ℕ) (path : List ℕ) (d : Data) → Gets (λ xs. xs ≡ some_items (Some d)) (array_in most path d)
unfolding array_in
array-said most path d =
    and_then (by (as_array d)) (λ xs same. by_test (nat_lt most (items_len xs)) _ _ (λ _. refused _) (λ _. done xs same))
  where
    by : (found : Option Items) → Gets (λ xs. xs ≡ unwrap_or found no_items) (or_refuse found WRONG_TYPE path)
    by None = refused _
    by (Some xs) = done xs refl

not_empty-same : (path : List ℕ) (xs : Items) → Gets (λ ys. ys ≡ xs) (not_empty path xs)
not_empty-same path no_items = refused _
not_empty-same path (item d rest) = done _ refl

-- a value with no unknown key is itself
known-same : (table : Table) (path : List ℕ) (d : Data) → Gets (λ k. k ≡ d) (known_in table path d)
known-same table path d = by_test (knows_members (is_key_of table) (as_object d)) _ _ (λ _. done d refl) (λ _. refused _)

-- what a walk gets, and that it gives it
told : {A : Type 0} {P : A → Type 0} (walk : Result A Refusal) → Gets P walk → Gets (λ x. P x × (walk ≡ Ok x)) walk
told walk gets = record { at = λ x is. (gets.at x is, is) }

text-grows : {a b : Texts} → Grows a b → (text : List ℕ) (n : ℕ) → IsText a text n → IsText b text n
text-grows g text n h = (IsHeld-grows g n h.0, text_of-grows g n h.0 ∙ h.1)

-- ---- the members of `on`

record IsShare (names : Texts) (d : Data) (share : Share) : Type 0 where
  pub node : IsText names (some_text [] (get (codes "node") d)) share.node
  pub pods : share.pods ≡ some_number (get (codes "pods") d)

abbrev AreShares : Texts → Items → List Share → Type 0
AreShares names no_items [] = Unit {0}
AreShares names no_items (s ∷ ss) = ⊥
AreShares names (item d rest) [] = ⊥
AreShares names (item d rest) (s ∷ ss) = IsShare names d s × AreShares names rest ss

share-grows : {a b : Texts} → Grows a b → (d : Data) (s : Share) → IsShare a d s → IsShare b d s
share-grows g d s h = record { node = text-grows g _ s.node h.node; pods = h.pods }

share-said : (names : Texts) (path : List ℕ) (value : Data) → Reads names (λ ns s. IsShare ns value s) (share_at names path value)
unfolding share_at
share-said names path value =
    and_then (object-same WRONG_TYPE path value (as_object value)) (λ d same.
    and_then (known-same tables.Share path d) (λ known is.
    let here = is ∙ same in
    and_then (needed-said path (codes "node") known) (λ text said.
    and_then (numbered-reads names text) (λ node n.
    and_then (whole-said 1 100000 path (codes "pods") known) (λ pods count.
    done _ (
      n.0,
      record {
        node = (n.1.0, n.1.1 ∙ said ∙ ap (λ v. some_text [] (get (codes "node") v)) here);
        pods = count ∙ ap (λ v. some_number (get (codes "pods") v)) here;
      },
    ))))))

-- the members from a place on stand behind earlier ones
record AddsShares (names : Texts) (earlier : List Share) (rest : Items) (all : List Share) : Type 0 where
  pub more : List Share
  pub is : all ≡ earlier ++ more
  pub said : AreShares names rest more

shares_from-said : (names : Texts) (path : List ℕ) (place : ℕ) (earlier : List Share) (rest : Items)
    → Reads names (λ ns all. AddsShares ns earlier rest all) (shares_from names path place earlier rest)
unfolding shares_from
shares_from-said names path place earlier no_items = done _ (Grows-none names, record { more = []; is = sym (append-nil earlier); said = tt })
shares_from-said names path place earlier (item d rest) =
    and_then (share-said names (member_path path (codes "/") place) d) (λ next n.
    weaker (shares_from-said next.1 path (place + 1) (earlier ++ next.0 ∷ []) rest) (λ r h. (
      Grows-then n.0 h.0,
      record { more = next.0 ∷ h.1.more; is = h.1.is ∙ append_assoc earlier (next.0 ∷ []) h.1.more; said = (share-grows h.0 d next.0 n.1, h.1.said) },
    )))

shares-said : (names : Texts) (path : List ℕ) (d : Data) → Reads names (λ ns all. AreShares ns (some_items (get (codes "on") d)) all) (shares_at names path d)
unfolding shares_in
shares-said names path d = by (get (codes "on") d)
  where
    here : List ℕ
    here = under path (codes "on")

    by : (o : Option Data) → Reads names (λ ns all. AreShares ns (some_items o) all) (required here (shares_in names here) o)
    by None = refused _
    by (Some found) =
        and_then (array-said 15000 here found) (λ xs same.
        and_then (not_empty-same here xs) (λ ys also.
        weaker (shares_from-said names here 0 [] ys) (λ r h. (h.0, subst (λ zs. AreShares r.1 zs r.0) (also ∙ same) (subst (λ ss. AreShares r.1 ys ss) (sym h.1.is) h.1.said)))))

-- ---- the node of each pod

abbrev AreNodes : Texts → List (List ℕ) → List ℕ → Type 0
AreNodes names [] [] = Unit {0}
AreNodes names [] (n ∷ ns) = ⊥
AreNodes names (t ∷ ts) [] = ⊥
AreNodes names (t ∷ ts) (n ∷ ns) = IsText names t n × AreNodes names ts ns

nodes-grow : {a b : Texts} → Grows a b → (ts : List (List ℕ)) (ns : List ℕ) → AreNodes a ts ns → AreNodes b ts ns
nodes-grow g [] [] h = tt
nodes-grow g [] (n ∷ ns) h = absurd h
nodes-grow g (t ∷ ts) [] h = absurd h
nodes-grow g (t ∷ ts) (n ∷ ns) h = (text-grows g t n h.0, nodes-grow g ts ns h.1)

nodes-many : (names : Texts) (many : ℕ) (t : List ℕ) (n : ℕ) (ts : List (List ℕ)) (ns : List ℕ) → IsText names t n → AreNodes names ts ns
    → AreNodes names (replicate many t ++ ts) (replicate many n ++ ns)
nodes-many names zero t n ts ns one rest = rest
nodes-many names (suc many) t n ts ns one rest = (one, nodes-many names many t n ts ns one rest)

nodes-are : (names : Texts) (xs : Items) (shares : List Share) → AreShares names xs shares → AreNodes names (nodes_said xs) (nodes_of shares)
nodes-are names no_items [] h = tt
nodes-are names no_items (s ∷ ss) h = absurd h
nodes-are names (item d rest) [] h = absurd h
nodes-are names (item d rest) (s ∷ ss) h =
    let text = some_text [] (get (codes "node") d) in
    subst (λ many. AreNodes names (replicate many text ++ nodes_said rest) (replicate s.pods s.node ++ nodes_of ss)) h.0.pods
    (nodes-many names s.pods text s.node (nodes_said rest) (nodes_of ss) h.0.node (nodes-are names rest ss h.1))

-- ---- the pods of a set

pod-grows : {a b : Texts} → Grows a b → (s : Said) (found : Key × Object) → IsPod a s found → IsPod b s found
pod-grows g s found h = record {
  kind = h.kind;
  space = text-grows g s.space found.0.space h.space;
  name = text-grows g s.name found.0.name h.name;
  pod = h.pod;
  object = h.object;
  node = text-grows g s.node h.pod.node h.node;
  tolerations = h.tolerations;
}

pub pods-grow : {a b : Texts} → Grows a b → (said : List Said) (pods : List (Key × Object)) → ArePods a said pods → ArePods b said pods
pods-grow g [] [] h = tt
pods-grow g [] (pod ∷ pods) h = absurd h
pods-grow g (s ∷ said) [] h = absurd h
pods-grow g (s ∷ said) (pod ∷ pods) h = (pod-grows g s pod h.0, pods-grow g said pods h.1)

pods-append : (names : Texts) (xs ys : List Said) (ps qs : List (Key × Object)) → ArePods names xs ps → ArePods names ys qs → ArePods names (xs ++ ys) (ps ++ qs)
pods-append names [] ys [] qs h k = k
pods-append names [] ys (p ∷ ps) qs h k = absurd h
pods-append names (x ∷ xs) ys [] qs h k = absurd h
pods-append names (x ∷ xs) ys (p ∷ ps) qs h k = (h.0, pods-append names xs ys ps qs h.1 k)

-- these Pods, and no more, stand behind the items
pub record AddsPods (names : Texts) (items : List (Key × Object)) (said : List Said) (all : List (Key × Object)) : Type 0 where
  pub more : List (Key × Object)
  pub is : all ≡ items ++ more
  pub pods : ArePods names said more

adds-none : (names : Texts) (items : List (Key × Object)) → AddsPods names items [] items
adds-none names items = record { more = []; is = sym (append-nil items); pods = tt }

-- first these, then those
adds-then : {a b : Texts} → Grows a b → (items next all : List (Key × Object)) (xs ys : List Said) → AddsPods a items xs next → AddsPods b next ys all → AddsPods b items (xs ++ ys) all
adds-then {a} {b} g items next all xs ys h k = record {
  more = h.more ++ k.more;
  is = k.is ∙ ap (λ n. n ++ k.more) h.is ∙ append_assoc items h.more k.more;
  pods = pods-append b xs ys h.more k.more (pods-grow g xs h.more h.pods) k.pods;
}

added-last : (scale : Scale) (path : List ℕ) (items : List (Key × Object)) (found : Key × Object) → Gets (λ more. more ≡ items ++ found ∷ []) (with_found scale path items found)
added-last scale path items found =
    by_test (has_key found.0 items) _ _ (λ _. refused _)
    (λ _. by_test (nat_lt (kind_count found.0.kind items) (kind_limit scale found.0.kind)) _ _ (λ _. done _ refl) (λ _. refused _))

module _ (scale : Scale) where
  pod-said : (names : Texts) (path : List ℕ) (set : Data) (alike : Alike) (j : ℕ) (items : List (Key × Object)) (node : ℕ) (space text : List ℕ)
      → AreBorne set alike.tolerations → IsText names space alike.space → IsText names text node
      → Reads names (λ ns all. AddsPods ns items (record { set = set; space = space; name = pod_name alike.name j; node = text } ∷ []) all) (pod_onto scale names path alike j items node)
  unfolding pod_onto
  pod-said names path set alike j items node space text borne in_space on =
      and_then (numbered-reads names (pod_name alike.name j)) (λ name n.
      and_then (added-last scale path items (pod_of alike name.0 node)) (λ more m.
      let one : IsPod name.1 (record { set = set; space = space; name = pod_name alike.name j; node = text }) (pod_of alike name.0 node) = record {
        kind = refl;
        space = text-grows n.0 space alike.space in_space;
        name = n.1;
        pod = record { node = node; tolerations = alike.tolerations };
        object = refl;
        node = text-grows n.0 text node on;
        tolerations = borne;
      } in
      done _ (n.0, record { more = pod_of alike name.0 node ∷ []; is = m; pods = (one, tt) })))

  pods-said : (names : Texts) (path : List ℕ) (set : Data) (alike : Alike) (j : ℕ) (items : List (Key × Object)) (nodes : List ℕ) (space : List ℕ) (texts : List (List ℕ))
      → AreBorne set alike.tolerations → IsText names space alike.space → AreNodes names texts nodes
      → Reads names (λ ns all. AddsPods ns items (pods_said set space alike.name j texts) all) (pods_onto scale names path alike j items nodes)
  unfolding pods_onto
  pods-said names path set alike j items [] space [] borne in_space on = done _ (Grows-none names, adds-none names items)
  pods-said names path set alike j items [] space (t ∷ ts) borne in_space on = absurd on
  pods-said names path set alike j items (node ∷ rest) space [] borne in_space on = absurd on
  pods-said names path set alike j items (node ∷ rest) space (t ∷ ts) borne in_space on =
      and_then (pod-said names path set alike j items node space t borne in_space on.0) (λ next n.
      weaker (pods-said next.1 path set alike (j + 1) next.0 rest space ts borne (text-grows n.0 space alike.space in_space) (nodes-grow n.0 ts rest on.1)) (λ r h. (
        Grows-then n.0 h.0,
        adds-then h.0 items next.0 r.0 (record { set = set; space = space; name = pod_name alike.name j; node = t } ∷ []) (pods_said set space alike.name (j + 1) ts) n.1 h.1,
      )))

  short-same : (path text : List ℕ) → Gets (λ t. t ≡ text) (if_short path text)
  short-same path text = by_test (nat_le (length text) 242) _ _ (λ _. done text refl) (λ _. refused _)

  set_name-said : (path : List ℕ) (d : Data) → Gets (λ t. t ≡ some_text [] (get (codes "name") d)) (set_name_at path d)
  unfolding set_name_at
  set_name-said path d =
      and_then (needed-said path (codes "name") d) (λ text same. weaker (short-same (under path (codes "name")) text) (λ t is. is ∙ same))

  room-same : (path : List ℕ) (items : List (Key × Object)) (pods : ℕ) → Gets (λ few. few ≡ items) (if_room scale path items pods)
  room-same path items pods =
      by_test (nat_le (kind_count kinds.Pod items + pods) (kind_limit scale kinds.Pod)) _ _ (λ _. done items refl) (λ _. refused _)

  set-said : (names : Texts) (path : List ℕ) (items : List (Key × Object)) (value : Data)
      → Reads names (λ ns all. AddsPods ns items (set_said value) all) (set_at scale names path items value)
  unfolding set_at
  set-said names path items value =
      and_then (object-same WRONG_TYPE path value (as_object value)) (λ d same.
      and_then (known-same tables.PodSet path d) (λ keys is.
      let here = is ∙ same in
      and_then (name-said (codes "default") path (codes "namespace") keys) (λ text in_space.
      and_then (numbered-reads names text) (λ space s.
      and_then (set_name-said path keys) (λ name called.
      and_then (told (tolerations_under space.1 path keys) (alike-reads space.1 path keys)) (λ tolerations walked.
      let t = walked.0 in
      let borne : AreBorne value tolerations.0 = record {
        names = space.1;
        path = path;
        after = tolerations.1;
        walked = subst (λ v. tolerations_under space.1 path v ≡ Ok tolerations) here walked.1;
      } in
      and_then (shares-said tolerations.1 path keys) (λ on o.
      and_then (room-same path items (pods_of on.0)) (λ few f.
      let alike : Alike = record { space = space.0; name = name; tolerations = tolerations.0 } in
      let spaced = some_text (codes "default") (get (codes "namespace") value) in
      let nodes = nodes_said (some_items (get (codes "on") value)) in
      let space_is : IsText on.1 spaced space.0 =
      text-grows (Grows-then t.0 o.0) spaced space.0 (s.1.0, s.1.1 ∙ in_space ∙ ap (λ v. some_text (codes "default") (get (codes "namespace") v)) here) in
      let nodes_are : AreNodes on.1 nodes (nodes_of on.0) =
      nodes-are on.1 (some_items (get (codes "on") value)) on.0 (subst (λ v. AreShares on.1 (some_items (get (codes "on") v)) on.0) here o.1) in
      let name_is : name ≡ some_text [] (get (codes "name") value) = called ∙ ap (λ v. some_text [] (get (codes "name") v)) here in
      weaker (pods-said on.1 path value alike 0 few (nodes_of on.0) spaced nodes borne space_is nodes_are) (λ r h. (
        Grows-then s.0 (Grows-then t.0 (Grows-then o.0 h.0)),
        subst (λ xs. AddsPods r.1 xs (set_said value) r.0) f (subst (λ n. AddsPods r.1 few (pods_said value spaced n 0 nodes) r.0) name_is h.1),
      ))))))))))

  sets_from-said : (names : Texts) (place : ℕ) (items : List (Key × Object)) (rest : Items)
      → Reads names (λ ns all. AddsPods ns items (sets_said rest) all) (sets_from scale names place items rest)
  unfolding sets_from
  sets_from-said names place items no_items = done _ (Grows-none names, adds-none names items)
  sets_from-said names place items (item d rest) =
      and_then (set-said names (member_path [] (codes "/podSets/") place) items d) (λ next n.
      weaker (sets_from-said next.1 (place + 1) next.0 rest) (λ r h. (Grows-then n.0 h.0, adds-then h.0 items next.0 r.0 (set_said d) (sets_said rest) n.1 h.1)))

  sets_in-said : (names : Texts) (items : List (Key × Object)) (d : Data) → Reads names (λ ns all. AddsPods ns items (sets_said (some_items (Some d))) all) (sets_in scale names items d)
  unfolding sets_in
  sets_in-said names items d =
      and_then (array-said 100000 (codes "/podSets") d) (λ xs same.
      weaker (sets_from-said names 0 items xs) (λ r h. (h.0, subst (λ ys. AddsPods r.1 items (sets_said ys) r.0) same h.1)))

  pub sets-said : (names : Texts) (items : List (Key × Object)) (o : Option Data)
      → Reads names (λ ns all. AddsPods ns items (sets_said (some_items o)) all) (default_of (items, names) (sets_in scale names items) o)
  sets-said names items None = done _ (Grows-none names, adds-none names items)
  sets-said names items (Some d) = sets_in-said names items d
