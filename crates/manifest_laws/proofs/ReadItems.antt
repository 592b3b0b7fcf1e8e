-- What a manifest gives is readable, so it is written and read back as it is.
use Rattle.std.proofs.Common.{◌≡◌, ℕ, ◌+◌, ◌≤◌, ◌==◌, ◌&&◌, not, nat_lt, Bool, true, false, List, [], ◌∷◌, ◌++◌, length, codes, Option, Some, None, Ok, refl, sym, ap, ◌∙◌, arith, append_assoc, length-append, ltb-false}
use Rattle.std.specs.List.{AllByRecursion, list_all, list_any}
use Rattle.std.proofs.lemmas.Bool.{and_parts, le-leb}
use Rattle.std.proofs.lemmas.List.{append-nil}
use Rattle.serde_json.specs.Data.{Data, Items, no_items, item}
use Rattle.kube_base.specs.Times.{last_wall}
use Rattle.kube_base.specs.declared.numbers.Wall.{Wall}
use Rattle.kube_objects.specs.declared.key.Key.{Key}
use Rattle.kube_objects.specs.declared.key.Kind.{Kind}
use Rattle.kube_objects.specs.declared.key.Kind.TheVariants as kinds
use Rattle.kube_objects.specs.declared.lease.Lease.{Lease}
use Rattle.kube_objects.specs.declared.node.Ready.{Ready}
use Rattle.kube_objects.specs.declared.node.Taint.{Taint}
use Rattle.kube_objects.specs.declared.object.Object.{Object}
use Rattle.kube_objects.specs.declared.object.Object.TheVariants as objects
use Rattle.kube_objects.specs.declared.pod.Toleration.{Toleration}
use Rattle.manifest_json.specs.declared.codes.TheConstants.{WRONG_JSON}
use Rattle.manifest_json.specs.Fields.{Texts, is_label, field, field_in, object_at, parent_at, text_at, items_at}
use Rattle.manifest_json.specs.declared.scale.Scale.{Scale}
use Rattle.manifest_json.specs.Readable.{AreHeld, IsHeld, IsFilled, IsNameNumber, IsLabelNumber, IsTime, IsWholeSecond, IsReadableTaint, taints_differ, IsReadableReady, IsReadableLease, IsReadableToleration, IsNodeNumber, IsReadableItem, items_fit, IsReadable}
use Rattle.manifest_json.specs.Walk.{name_text_at, space_text_at, name_at, space_at, spaced_key_at, label_at, effect_at, same_taint, taint_text_at, taint_key_at, text_number_at, taint_at, whole_second, member_path, taints_from, items_len, hundred, taints_at, status_at, ready_at, is_ready_type, condition_at, conditions_from, conditions_at, labels_at, node_at, lease_spec_at, lease_at, operator_at, any_effect_at, is_lawful, toleration_at, tolerations_from, tolerations_at, tolerations_under, node_name_at, pod_at, of_kind_at, if_kind, item_at, object_walk, kind_limit, kind_count, has_key, with_found, with_item, list_step, list_from, list_walk}
use Rattle.manifest_json.specs.Written.{is_writable, is_writable_taint, is_writable_condition, is_writable_item}
use Rattle.manifest_laws.proofs.Getting.{Gets, done, refused, weaker, by_test, and_then, skip}
use Rattle.manifest_laws.proofs.Growing.{Grows, Grows-none, Grows-then, IsHeld-grows}
use Rattle.manifest_laws.proofs.ReadableGrows.{all-weaker, all-push, AreHeld-grows, IsFilled-grows, IsNameNumber-grows, IsLabelNumber-grows, IsNodeNumber-grows, IsReadableTaint-grows, IsReadableToleration-grows, IsReadableItem-grows}
use Rattle.manifest_laws.proofs.ReadFields.{Reads, time-in, whole-in, count-in, signed-in, numbered-reads, named-reads}
use Rattle.manifest_laws.proofs.ReadHolders.{holder-reads}

-- ---- metadata

name-reads : (names : Texts) (path : List ℕ) (metadata : Option Data) → Reads names IsNameNumber (name_at names path metadata)
unfolding name_at
name-reads names path metadata =
    let place = path ++ codes "/metadata/name" in
    skip (name_text_at place (field_in (codes "name") metadata)) (λ text. named-reads names place text)

space-reads : (names : Texts) (path : List ℕ) (metadata : Option Data) → Reads names IsNameNumber (space_at names path metadata)
unfolding space_at
space-reads names path metadata =
    let place = path ++ codes "/metadata/namespace" in
    skip (space_text_at place (field_in (codes "namespace") metadata)) (λ text. named-reads names place text)

abbrev IsSpacedKey : Kind → Texts → Key → Type 0
IsSpacedKey kind names key = (key.kind ≡ kind) × IsNameNumber names key.space × IsNameNumber names key.name

key-reads : (names : Texts) (path : List ℕ) (kind : Kind) (metadata : Option Data) → Reads names (IsSpacedKey kind) (spaced_key_at names path kind metadata)
unfolding spaced_key_at
key-reads names path kind metadata =
    and_then (space-reads names path metadata) (λ space s.
    and_then (name-reads space.1 path metadata) (λ name n.
    done _ (Grows-then s.0 n.0, (refl, IsNameNumber-grows n.0 space.0 s.1, n.1))))

label-reads : (names : Texts) (path place key : List ℕ) (labels : Option Data) → Reads names IsLabelNumber (label_at names path place key labels)
unfolding label_at
label-reads names path place key labels =
    skip (text_at WRONG_JSON (path ++ place) (field_in key labels)) (λ text.
    by_test (is_label text) _ _ (λ e. weaker (numbered-reads names text) (λ r h. (h.0, (h.1.0, ap is_label h.1.1 ∙ e)))) (λ e. refused _))

text-reads : (names : Texts) (path key : List ℕ) (d : Option Data) → Reads names IsHeld (text_number_at names path key d)
unfolding text_number_at
text-reads names path key d = skip (text_at WRONG_JSON (path ++ key) d) (λ text. weaker (numbered-reads names text) (λ r h. (h.0, h.1.0)))

-- ---- Nodes

taint_key-reads : (names : Texts) (path : List ℕ) (d : Data) → Reads names (λ ns n. IsHeld ns n × IsFilled ns n) (taint_key_at names path d)
unfolding taint_key_at
taint_key-reads names path d =
    skip (taint_text_at (path ++ codes "/key") (field (codes "key") d)) (λ text.
    by_test (length text == 0) _ _ (λ e. refused _) (λ e. weaker (numbered-reads names text) (λ r h. (h.0, (h.1.0, ap (λ t. length t == 0) h.1.1 ∙ e)))))

abbrev IsNewTaint : List Taint → Texts → Taint → Type 0
IsNewTaint earlier names t = IsReadableTaint names t × (list_any (same_taint t) earlier ≡ false)

taint-reads : (names : Texts) (path : List ℕ) (earlier : List Taint) (value : Data) → Reads names (IsNewTaint earlier) (taint_at names path earlier value)
unfolding taint_at
taint-reads names path earlier value =
    skip (object_at path value) (λ d.
    and_then (taint_key-reads names path d) (λ key k.
    and_then (text-reads key.1 path (codes "/value") (field (codes "value") d)) (λ text t.
    skip (effect_at (path ++ codes "/effect") (field (codes "effect") d)) (λ effect.
    and_then (time-in (path ++ codes "/timeAdded") (field (codes "timeAdded") d)) (λ added a.
    let taint : Taint = record { key = key.0; value = text.0; effect = effect; added = whole_second added } in
    let held : IsReadableTaint text.1 taint = record {
      key = IsHeld-grows t.0 key.0 k.1.0;
      filled = IsFilled-grows t.0 key.0 k.1.0 k.1.1;
      value = t.1;
      added = whole-in added a;
    } in
    by_test (list_any (same_taint taint) earlier) _ _ (λ e. refused _) (λ e. done _ (Grows-then k.0 t.0, (held, e))))))))

pub taints_differ-push : (earlier ts : List Taint) (t : Taint) → taints_differ earlier ts ≡ true → list_any (same_taint t) (earlier ++ ts) ≡ false → taints_differ earlier (ts ++ t ∷ []) ≡ true
taints_differ-push earlier [] t differ new =
    ap (λ b. not b && true) (ap (list_any (same_taint t)) (sym (append-nil earlier)) ∙ new)
taints_differ-push earlier (s ∷ ts) t differ new =
    let parts = and_parts (not (list_any (same_taint s) earlier)) (taints_differ (earlier ++ s ∷ []) ts) differ in
    let rest = taints_differ-push (earlier ++ s ∷ []) ts t parts.1 (ap (list_any (same_taint t)) (append_assoc earlier (s ∷ []) ts) ∙ new) in
    ap (λ b. b && taints_differ (earlier ++ s ∷ []) (ts ++ t ∷ [])) parts.0 ∙ rest

-- taints behind earlier ones, of which there are so many
abbrev AreTaints : ℕ → Texts → List Taint → Type 0
AreTaints many names ts = AllByRecursion (IsReadableTaint names) ts × (length ts ≡ many) × (taints_differ [] ts ≡ true)

taints_from-reads : (names : Texts) (path : List ℕ) (place : ℕ) (earlier : List Taint) (rest : Items) → AllByRecursion (IsReadableTaint names) earlier → taints_differ [] earlier ≡ true
    → Reads names (AreTaints (length earlier + items_len rest)) (taints_from names path place earlier rest)
unfolding taints_from
taints_from-reads names path place earlier no_items all differ = done _ (Grows-none names, (all, omega arith, differ))
taints_from-reads names path place earlier (item d rest) all differ =
    and_then (taint-reads names (member_path path (codes "/spec/taints/") place) earlier d) (λ taint t.
    weaker (taints_from-reads taint.1 path (place + 1) (earlier ++ taint.0 ∷ []) rest (all-push _ earlier taint.0 (all-weaker _ _ earlier (IsReadableTaint-grows t.0) all) t.1.0) (taints_differ-push [] earlier taint.0 differ t.1.1))
    (λ r h. (Grows-then t.0 h.0, (h.1.0, omega (arith, h.1.1, length-append earlier (taint.0 ∷ [])), h.1.2))))

few-in : (path : List ℕ) (all : Items) → Gets (λ few. items_len few ≤ 100) (hundred path all)
few-in path all = by_test (nat_lt 100 (items_len all)) _ _ (λ e. refused _) (λ e. done all (ltb-false 100 (items_len all) e))

taints-reads : (names : Texts) (path : List ℕ) (spec : Option Data) → Reads names (λ ns ts. AllByRecursion (IsReadableTaint ns) ts × (length ts ≤ 100) × (taints_differ [] ts ≡ true)) (taints_at names path spec)
unfolding taints_at
taints-reads names path spec =
    skip (items_at (path ++ codes "/spec/taints") (field_in (codes "taints") spec)) (λ all.
    and_then (few-in (path ++ codes "/spec/taints") all) (λ few f.
    weaker (taints_from-reads names path 0 [] few tt refl) (λ r h. (h.0, (h.1.0, omega (arith, h.1.1, f), h.1.2)))))

ready-reads : (names : Texts) (path : List ℕ) (d : Data) → Reads names (λ ns r. IsReadableReady ns (Some r)) (ready_at names path d)
unfolding ready_at
ready-reads names path d =
    skip (status_at (path ++ codes "/status") (field (codes "status") d)) (λ status.
    and_then (text-reads names path (codes "/reason") (field (codes "reason") d)) (λ reason r.
    and_then (time-in (path ++ codes "/lastHeartbeatTime") (field (codes "lastHeartbeatTime") d)) (λ heartbeat h.
    and_then (time-in (path ++ codes "/lastTransitionTime") (field (codes "lastTransitionTime") d)) (λ transition t.
    done _ (r.0, record { reason = r.1; heartbeat = whole-in heartbeat h; transition = whole-in transition t })))))

condition-reads : (names : Texts) (path : List ℕ) (found : Option Ready) (value : Data) → IsReadableReady names found → Reads names IsReadableReady (condition_at names path found value)
unfolding condition_at
condition-reads names path None value h =
    skip (object_at path value) (λ d.
    by_test (is_ready_type d) _ _ (λ e. and_then (ready-reads names path d) (λ ready r. done _ r)) (λ e. done _ (Grows-none names, tt)))
condition-reads names path (Some first) value h = skip (object_at path value) (λ d. done _ (Grows-none names, h))

conditions_from-reads : (names : Texts) (path : List ℕ) (place : ℕ) (found : Option Ready) (rest : Items) → IsReadableReady names found → Reads names IsReadableReady (conditions_from names path place found rest)
unfolding conditions_from
conditions_from-reads names path place found no_items h = done _ (Grows-none names, h)
conditions_from-reads names path place found (item d rest) h =
    and_then (condition-reads names (member_path path (codes "/status/conditions/") place) found d h) (λ next n.
    weaker (conditions_from-reads next.1 path (place + 1) next.0 rest n.1) (λ r k. (Grows-then n.0 k.0, k.1)))

conditions-reads : (names : Texts) (path : List ℕ) (status : Option Data) → Reads names IsReadableReady (conditions_at names path status)
unfolding conditions_at
conditions-reads names path status =
    skip (items_at (path ++ codes "/status/conditions") (field_in (codes "conditions") status)) (λ all. conditions_from-reads names path 0 None all tt)

labels-reads : (names : Texts) (path : List ℕ) (metadata : Option Data) → Gets (λ r. Grows names r.2 × IsLabelNumber r.2 r.0 × IsLabelNumber r.2 r.1) (labels_at names path metadata)
unfolding labels_at
labels-reads names path metadata =
    skip (parent_at (path ++ codes "/metadata/labels") (field_in (codes "labels") metadata)) (λ labels.
    and_then (label-reads names path (codes "/metadata/labels/topology.kubernetes.io/region") (codes "topology.kubernetes.io/region") labels) (λ region r.
    and_then (label-reads region.1 path (codes "/metadata/labels/topology.kubernetes.io/zone") (codes "topology.kubernetes.io/zone") labels) (λ zone z.
    done _ (Grows-then r.0 z.0, IsLabelNumber-grows z.0 region.0 r.1, z.1))))

node-reads : (names : Texts) (known path : List ℕ) (d : Data) → Reads names (λ ns. IsReadableItem ns known) (node_at names path d)
unfolding node_at
node-reads names known path d =
    skip (parent_at (path ++ codes "/metadata") (field (codes "metadata") d)) (λ metadata.
    and_then (name-reads names path metadata) (λ name n.
    and_then (labels-reads name.1 path metadata) (λ labels l.
    skip (parent_at (path ++ codes "/spec") (field (codes "spec") d)) (λ spec.
    and_then (taints-reads labels.2 path spec) (λ taints t.
    skip (parent_at (path ++ codes "/status") (field (codes "status") d)) (λ status.
    and_then (conditions-reads taints.1 path status) (λ ready r.
    let from_labels = Grows-then t.0 r.0 in
    done _ (
      Grows-then n.0 (Grows-then l.0 from_labels),
      record {
        kind = refl;
        space = refl;
        name = IsNameNumber-grows (Grows-then l.0 from_labels) name.0 n.1;
        region = IsLabelNumber-grows from_labels labels.0 l.1;
        zone = IsLabelNumber-grows from_labels labels.1 l.2;
        taints = all-weaker _ _ taints.0 (IsReadableTaint-grows r.0) t.1.0;
        few = t.1.1;
        differ = t.1.2;
        ready = r.1;
      },
    ))))))))

-- ---- Leases

-- the same as `IsReadableLease`, but for the key
record IsSpec (known : List ℕ) (names : Texts) (l : Lease) : Type 0 where
  pub at : (key : Key) → IsSpacedKey kinds.Lease names key → IsReadableLease names known key l

lease_spec-reads : (names : Texts) (known path : List ℕ) (spec : Option Data) → AreHeld names known → Reads names (IsSpec known) (lease_spec_at names known path spec)
unfolding lease_spec_at
lease_spec-reads names known path spec held =
    skip (text_at WRONG_JSON (path ++ codes "/spec/holderIdentity") (field_in (codes "holderIdentity") spec)) (λ text.
    and_then (holder-reads names known held text) (λ holder h.
    and_then (count-in (path ++ codes "/spec/leaseDurationSeconds") (field_in (codes "leaseDurationSeconds") spec)) (λ duration d.
    and_then (time-in (path ++ codes "/spec/acquireTime") (field_in (codes "acquireTime") spec)) (λ acquired a.
    and_then (time-in (path ++ codes "/spec/renewTime") (field_in (codes "renewTime") spec)) (λ renewed r.
    and_then (count-in (path ++ codes "/spec/leaseTransitions") (field_in (codes "leaseTransitions") spec)) (λ transitions t.
    done _ (h.0, record { at = λ key k. record { kind = k.0; space = k.1; name = k.2; holder = h.1; duration = d; acquired = a; renewed = r; transitions = t } })))))))

lease-reads : (names : Texts) (known path : List ℕ) (d : Data) → AreHeld names known → Reads names (λ ns. IsReadableItem ns known) (lease_at names known path d)
unfolding lease_at
lease-reads names known path d held =
    skip (parent_at (path ++ codes "/metadata") (field (codes "metadata") d)) (λ metadata.
    and_then (key-reads names path kinds.Lease metadata) (λ key k.
    skip (parent_at (path ++ codes "/spec") (field (codes "spec") d)) (λ spec.
    and_then (lease_spec-reads key.1 known path spec (AreHeld-grows k.0 known held)) (λ lease l.
    done _ (Grows-then k.0 l.0, l.1.at key.0 (k.1.0, IsNameNumber-grows l.0 key.0.space k.1.1, IsNameNumber-grows l.0 key.0.name k.1.2))))))

-- ---- Pods

toleration-reads : (names : Texts) (path : List ℕ) (value : Data) → Reads names IsReadableToleration (toleration_at names path value)
unfolding toleration_at
toleration-reads names path value =
    skip (object_at path value) (λ d.
    and_then (text-reads names path (codes "/key") (field (codes "key") d)) (λ key k.
    and_then (text-reads key.1 path (codes "/value") (field (codes "value") d)) (λ text t.
    skip (operator_at (path ++ codes "/operator") (field (codes "operator") d)) (λ operator.
    skip (any_effect_at (path ++ codes "/effect") (field (codes "effect") d)) (λ effect.
    and_then (signed-in (path ++ codes "/tolerationSeconds") (field (codes "tolerationSeconds") d)) (λ seconds s.
    let toleration : Toleration = record { key = key.0; operator = operator; value = text.0; effect = effect; seconds = seconds } in
    by_test (is_lawful toleration) (Ok (toleration, text.1)) _
    (λ e. done _ (Grows-then k.0 t.0, record { key = IsHeld-grows t.0 key.0 k.1; value = t.1; seconds = s; lawful = e }))
    (λ e. refused _)))))))

tolerations_from-reads : (names : Texts) (path key : List ℕ) (place : ℕ) (earlier : List Toleration) (rest : Items) → AllByRecursion (IsReadableToleration names) earlier
    → Reads names (λ ns ts. AllByRecursion (IsReadableToleration ns) ts × (length ts ≡ length earlier + items_len rest)) (tolerations_from names path key place earlier rest)
unfolding tolerations_from
tolerations_from-reads names path key place earlier no_items all = done _ (Grows-none names, (all, omega arith))
tolerations_from-reads names path key place earlier (item d rest) all =
    and_then (toleration-reads names (member_path path key place) d) (λ next n.
    weaker (tolerations_from-reads next.1 path key (place + 1) (earlier ++ next.0 ∷ []) rest (all-push _ earlier next.0 (all-weaker _ _ earlier (IsReadableToleration-grows n.0) all) n.1))
    (λ r h. (Grows-then n.0 h.0, (h.1.0, omega (arith, h.1.1, length-append earlier (next.0 ∷ []))))))

tolerations-reads : (names : Texts) (path : List ℕ) (spec : Option Data) → Reads names (λ ns ts. AllByRecursion (IsReadableToleration ns) ts × (length ts ≤ 100)) (tolerations_at names path spec)
unfolding tolerations_at
tolerations-reads names path spec =
    skip (items_at (path ++ codes "/spec/tolerations") (field_in (codes "tolerations") spec)) (λ all.
    and_then (few-in (path ++ codes "/spec/tolerations") all) (λ few f.
    weaker (tolerations_from-reads names path (codes "/spec/tolerations/") 0 [] few tt) (λ r h. (h.0, (h.1.0, omega (arith, h.1.1, f))))))

pub alike-reads : (names : Texts) (path : List ℕ) (d : Data) → Reads names (λ ns ts. AllByRecursion (IsReadableToleration ns) ts × (length ts ≤ 100)) (tolerations_under names path d)
unfolding tolerations_under
alike-reads names path d =
    skip (items_at (path ++ codes "/tolerations") (field (codes "tolerations") d)) (λ all.
    and_then (few-in (path ++ codes "/tolerations") all) (λ few f.
    weaker (tolerations_from-reads names path (codes "/tolerations/") 0 [] few tt) (λ r h. (h.0, (h.1.0, omega (arith, h.1.1, f))))))

node_name-reads : (names : Texts) (path : List ℕ) (spec : Option Data) → Reads names IsNodeNumber (node_name_at names path spec)
unfolding node_name_at
node_name-reads names path spec =
    let place = path ++ codes "/spec/nodeName" in
    skip (text_at WRONG_JSON place (field_in (codes "nodeName") spec)) (λ text.
    by_test (length text == 0) _ _
    (λ e. weaker (numbered-reads names text) (λ r h. (h.0, (h.1.0, λ filled. absurd (let no : true ≡ false = sym (ap (λ t. length t == 0) h.1.1 ∙ e) ∙ filled in cc)))))
    (λ e. weaker (named-reads names place text) (λ r h. (h.0, (h.1.0, λ filled. h.1.1)))))

pod-reads : (names : Texts) (known path : List ℕ) (d : Data) → Reads names (λ ns. IsReadableItem ns known) (pod_at names path d)
unfolding pod_at
pod-reads names known path d =
    skip (parent_at (path ++ codes "/metadata") (field (codes "metadata") d)) (λ metadata.
    and_then (key-reads names path kinds.Pod metadata) (λ key k.
    skip (parent_at (path ++ codes "/spec") (field (codes "spec") d)) (λ spec.
    and_then (node_name-reads key.1 path spec) (λ node n.
    and_then (tolerations-reads node.1 path spec) (λ tolerations t.
    let from_key = Grows-then n.0 t.0 in
    done _ (
      Grows-then k.0 from_key,
      record {
        kind = k.1.0;
        space = IsNameNumber-grows from_key key.0.space k.1.1;
        name = IsNameNumber-grows from_key key.0.name k.1.2;
        node = IsNodeNumber-grows t.0 node.0 n.1;
        tolerations = t.1.0;
        few = t.1.1;
      },
    ))))))

-- ---- objects

of_kind-reads : (names : Texts) (known path : List ℕ) (d : Data) (kind : Kind) → AreHeld names known → Reads names (λ ns. IsReadableItem ns known) (of_kind_at names known path d kind)
unfolding of_kind_at
of_kind-reads names known path d kinds.Node held = node-reads names known path d
of_kind-reads names known path d kinds.Lease held = lease-reads names known path d held
of_kind-reads names known path d kinds.Pod held = pod-reads names known path d

-- an object that is read alone
pub object-reads : (names : Texts) (known path : List ℕ) (value : Data) → AreHeld names known → Reads names (λ ns. IsReadableItem ns known) (object_walk names known path value)
unfolding object_walk
object-reads names known path value held = search (skip, of_kind-reads)

abbrev IsReadableIf : List ℕ → Texts → Option (Key × Object) → Type 0
IsReadableIf known names None = Unit {0}
IsReadableIf known names (Some found) = IsReadableItem names known found

if_kind-reads : (names : Texts) (known path : List ℕ) (d : Data) (kind : Option Kind) → AreHeld names known → Reads names (IsReadableIf known) (if_kind names known path d kind)
if_kind-reads names known path d None held = done _ (Grows-none names, tt)
if_kind-reads names known path d (Some kind) held = and_then (of_kind-reads names known path d kind held) (λ found h. done _ h)

item-reads : (names : Texts) (known path : List ℕ) (value : Data) → AreHeld names known → Reads names (IsReadableIf known) (item_at names known path value)
unfolding item_at
item-reads names known path value held = search (skip, if_kind-reads)

-- ---- lists

pub three : (a b c : Bool) → (a && b && c) ≡ true → (a ≡ true) × (b ≡ true) × (c ≡ true)
three true true c h = (refl, refl, h)
three true false c h = absurd cc
three false b c h = absurd cc

pub three_true : (a b c : Bool) → a ≡ true → b ≡ true → c ≡ true → (a && b && c) ≡ true
three_true a b c x y z = rw (x, y, z) refl

abbrev has_room : Scale → List (Key × Object) → Key × Object → Bool
has_room scale earlier x = nat_lt (kind_count x.0.kind earlier) (kind_limit scale x.0.kind)

items_fit-push : (scale : Scale) (earlier xs : List (Key × Object)) (x : Key × Object) → items_fit scale earlier xs ≡ true → has_key x.0 (earlier ++ xs) ≡ false → has_room scale (earlier ++ xs) x ≡ true → items_fit scale earlier (xs ++ x ∷ []) ≡ true
items_fit-push scale earlier [] x fit new room =
    let same = sym (append-nil earlier) in
    three_true (not (has_key x.0 earlier)) (has_room scale earlier x) true (ap not (ap (has_key x.0) same ∙ new)) (ap (λ e. has_room scale e x) same ∙ room) refl
items_fit-push scale earlier (y ∷ xs) x fit new room =
    let parts = three (not (has_key y.0 earlier)) (has_room scale earlier y) (items_fit scale (earlier ++ y ∷ []) xs) fit in
    let same = append_assoc earlier (y ∷ []) xs in
    three_true (not (has_key y.0 earlier)) (has_room scale earlier y) (items_fit scale (earlier ++ y ∷ []) (xs ++ x ∷ [])) parts.0 parts.1
    (items_fit-push scale (earlier ++ y ∷ []) xs x parts.2 (ap (has_key x.0) same ∙ new) (ap (λ e. has_room scale e x) same ∙ room))

pub found-reads : (scale : Scale) (names : Texts) (known path : List ℕ) (items : List (Key × Object)) (found : Key × Object) → IsReadable scale names known items → IsReadableItem names known found → Gets (IsReadable scale names known) (with_found scale path items found)
found-reads scale names known path items found all one =
    by_test (has_key found.0 items) _ _
    (λ e. refused _)
    (λ e. by_test (has_room scale items found) _ _ (λ r. done _ (record { each = all-push _ items found all.each one; fit = items_fit-push scale [] items found all.fit e r })) (λ r. refused _))

with_item-reads : (scale : Scale) (names : Texts) (known path : List ℕ) (items : List (Key × Object)) (found : Option (Key × Object)) → IsReadable scale names known items → IsReadableIf known names found → Gets (λ r. IsReadable scale names known r.0) (with_item scale path items found)
with_item-reads scale names known path items None all one = done _ all
with_item-reads scale names known path items (Some found) all one = and_then (found-reads scale names known path items found all one) (λ more h. done _ h)

pub IsReadable-grows : {scale : Scale} {a b : Texts} (g : Grows a b) (known : List ℕ) → AreHeld a known → (items : List (Key × Object)) → IsReadable scale a known items → IsReadable scale b known items
IsReadable-grows g known held items h = record { each = all-weaker _ _ items (IsReadableItem-grows g known held) h.each; fit = h.fit }

step-reads : (scale : Scale) (names : Texts) (known path : List ℕ) (items : List (Key × Object)) (d : Data) → AreHeld names known → IsReadable scale names known items → Reads names (λ ns r. IsReadable scale ns known r.0) (list_step scale names known path items d)
unfolding list_step
step-reads scale names known path items d held all =
    and_then (item-reads names known path d held) (λ found f.
    and_then (with_item-reads scale found.1 known path items found.0 (IsReadable-grows f.0 known held items all) f.1) (λ next n. done _ (f.0, n)))

from-reads : (scale : Scale) (names : Texts) (known path : List ℕ) (place : ℕ) (items : List (Key × Object)) (skipped : ℕ) (rest : Items) → AreHeld names known → IsReadable scale names known items
    → Reads names (λ ns r. IsReadable scale ns known r.0) (list_from scale names known path place items skipped rest)
unfolding list_from
from-reads scale names known path place items skipped no_items held all = done _ (Grows-none names, all)
from-reads scale names known path place items skipped (item d rest) held all =
    and_then (step-reads scale names known (member_path path (codes "/items/") place) items d held all) (λ next n.
    weaker (from-reads scale next.1 known path (place + 1) next.0.0 (skipped + next.0.1) rest (AreHeld-grows n.0 known held) n.1) (λ r h. (Grows-then n.0 h.0, h.1)))

-- the objects of a List are readable with the names that are held then
pub list-reads : (scale : Scale) (names : Texts) (known path : List ℕ) (value : Data) → AreHeld names known → Reads names (λ ns r. IsReadable scale ns known r.0) (list_walk scale names known path value)
unfolding list_walk
list-reads scale names known path value held = search (skip, from-reads) depth 6

-- ---- what is readable can be written

writable-time : (at : Option Wall) → IsTime at → is_writable at ≡ true
writable-time None h = refl
writable-time (Some w) h = le-leb w.0 last_wall h

writable-second : (at : Option Wall) → IsWholeSecond at → is_writable at ≡ true
writable-second None h = refl
writable-second (Some w) h = le-leb w.0 last_wall h.0

writable-taints : (names : Texts) (ts : List Taint) → AllByRecursion (IsReadableTaint names) ts → list_all is_writable_taint ts ≡ true
writable-taints names [] all = refl
writable-taints names (t ∷ ts) all = ap (λ b. b && list_all is_writable_taint ts) (writable-second t.added all.0.added) ∙ writable-taints names ts all.1

writable-condition : (names : Texts) (r : Option Ready) → IsReadableReady names r → is_writable_condition r ≡ true
writable-condition names None h = refl
writable-condition names (Some r) h = ap (λ b. b && is_writable r.transition) (writable-second r.heartbeat h.heartbeat) ∙ writable-second r.transition h.transition

pub writable-item : (names : Texts) (known : List ℕ) (item : Key × Object) → IsReadableItem names known item → is_writable_item item ≡ true
writable-item names known (key, objects.Node n) h = ap (λ b. b && is_writable_condition n.ready) (writable-taints names n.taints h.taints) ∙ writable-condition names n.ready h.ready
writable-item names known (key, objects.Lease l) h = ap (λ b. b && is_writable l.renewed) (writable-time l.acquired h.acquired) ∙ writable-time l.renewed h.renewed
writable-item names known (key, objects.Pod p) h = refl

pub writable-items : (names : Texts) (known : List ℕ) (items : List (Key × Object)) → AllByRecursion (IsReadableItem names known) items → list_all is_writable_item items ≡ true
writable-items names known [] all = refl
writable-items names known (i ∷ items) all = ap (λ b. b && list_all is_writable_item items) (writable-item names known i all.0) ∙ writable-items names known items all.1
