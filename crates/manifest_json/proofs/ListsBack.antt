-- A List that is written is read back.
use Rattle.std.proofs.Common.{◌≡◌, ℕ, ◌+◌, ◌≤◌, ◌==◌, ◌&&◌, not, nat_lt, Bool, true, false, cond, List, [], ◌∷◌, ◌++◌, length, map, codes, Option, Some, None, option_and_then, Result, Ok, Err, IfOk, refl, sym, ap, ◌∙◌, arith, append_assoc}
use Rattle.std.specs.List.{AllByRecursion, list_any}
use Rattle.std.proofs.lemmas.Bool.Decides.{nat_tests}
use Rattle.serde_json.specs.Data.{Data, object, array, string, no_items}
use Rattle.serde_json.specs.Find.{get_member, as_str}
use Rattle.serde_json.specs.View.{view, items_of}
use Rattle.serde_json.specs.declared.value.Value.{Value}
use Rattle.kube_base.specs.Names.{EachOnce}
use Rattle.kube_objects.specs.declared.key.Key.{Key}
use Rattle.kube_objects.specs.declared.key.Kind.{Kind}
use Rattle.kube_objects.specs.declared.key.Kind.TheVariants as kinds
use Rattle.kube_objects.specs.declared.lease.Lease.{Lease}
use Rattle.kube_objects.specs.declared.node.Node.{Node}
use Rattle.kube_objects.specs.declared.node.Ready.{Ready}
use Rattle.kube_objects.specs.declared.node.Taint.{Taint}
use Rattle.kube_objects.specs.declared.object.Object.{Object}
use Rattle.kube_objects.specs.declared.object.Object.TheVariants as objects
use Rattle.kube_objects.specs.declared.pod.Pod.{Pod}
use Rattle.kube_objects.specs.declared.pod.Toleration.{Toleration}
use Rattle.manifest_json.specs.declared.codes.TheConstants.{BAD_KIND, BAD_LABEL, DUPLICATE, TOO_MANY, WRONG_JSON}
use Rattle.manifest_json.specs.declared.fault.Refusal.{Refusal}
use Rattle.manifest_json.specs.declared.scale.Scale.{Scale}
use Rattle.manifest_json.specs.Faults.{◌>>=◌, refuse}
use Rattle.manifest_json.specs.Fields.{Texts, unless_null, field, field_in, or_refuse, parent_at, text_at, items_at, time_at, count_at, numbered, named}
use Rattle.manifest_json.specs.Walk.{name_text_at, space_text_at, name_at, space_at, spaced_key_at, label_from, label_at, same_taint, member_path, taints_from, items_len, hundred, taints_at, is_text, conditions_from, conditions_at, labels_at, node_at, holder_of, lease_spec_at, lease_at, tolerations_from, tolerations_at, node_name_from, node_name_at, pod_at, kind_from, kind_at, of_kind_at, if_kind, item_at, kind_limit, kind_count, has_key, with_found, with_item, list_step, list_from, list_walk}
use Rattle.manifest_json.specs.Written.{Field, members_of, text, filled_text, filled_object, filled_array, text_of, in_micros, count, taint_of, condition_of, conditions_of, labels_of, node_metadata_of, node_spec_of, node_status_of, node_of, holder_text, metadata_of, lease_spec_of, lease_of, toleration_of, pod_spec_of, pod_of, object_of, list_of}
use Rattle.manifest_json.specs.Readable.{IsNameNumber, IsLabelNumber, IsReadableTaint, taints_differ, IsReadableReady, IsReadableNode, IsReadableLease, IsReadableToleration, IsNodeNumber, IsReadablePod, IsReadableItem, items_fit, IsReadable}
use Rattle.manifest_json.proofs.FieldsBack.{lookup, distinct, get-lookup, field-is, field_in-is, filled_object-there, parent-back, items-back, text-back, numbered-back, named-back, micros-back, count-back}
use Rattle.manifest_json.proofs.HoldersBack.{holder-back}
use Rattle.manifest_json.proofs.Loops.{taints_from-step, conditions_from-step, tolerations_from-step, list_from-step}
use Rattle.manifest_json.proofs.PartsBack.{taint-back, toleration-back, condition-back}

append_nil : {A : Type 0} (xs : List A) → xs ++ [] ≡ xs
append_nil [] = refl
append_nil (x ∷ xs) = ap (λ ys. x ∷ ys) (append_nil xs)

both : (a b : Bool) → (a && b) ≡ true → (a ≡ true) × (b ≡ true)
both true b h = (refl, h)
both false b h = absurd cc

three : (a b c : Bool) → (a && b && c) ≡ true → (a ≡ true) × (b ≡ true) × (c ≡ true)
three true true c h = (refl, refl, h)
three true false c h = absurd cc
three false b c h = absurd cc

not_true : (b : Bool) → not b ≡ true → b ≡ false
not_true true h = absurd cc
not_true false h = refl

-- ---- arrays

items_len-map : {A : Type 0} (f : A → Data) (xs : List A) → items_len (items_of (map f xs)) ≡ length xs
items_len-map f [] = refl
items_len-map f (x ∷ xs) = ap (λ n. 1 + n) (items_len-map f xs) ∙ omega arith

hundred-back : {A : Type 0} (path : List ℕ) (f : A → Data) (xs : List A) → length xs ≤ 100 → hundred path (items_of (map f xs)) ≡ Ok (items_of (map f xs))
hundred-back path f xs le = ap (λ n. cond (nat_lt 100 n) (refuse TOO_MANY path) (Ok (items_of (map f xs)))) (items_len-map f xs) ∙ ap (λ b. cond b (refuse TOO_MANY path) (Ok (items_of (map f xs)))) (few (length xs) le)
  where
    few : (n : ℕ) → n ≤ 100 → nat_lt 100 n ≡ false
    few n le = grind (arith, nat_tests)

taints_from-back : (names : Texts) (once : EachOnce names) (path : List ℕ) (place : ℕ) (earlier ts : List Taint) → AllByRecursion (IsReadableTaint names) ts → taints_differ earlier ts ≡ true
    → taints_from names path place earlier (items_of (map (taint_of names) ts)) ≡ Ok (earlier ++ ts, names)
unfolding taints_from
taints_from-back names once path place earlier [] h d = ap (λ ts. Ok (ts, names)) (sym (append_nil earlier))
taints_from-back names once path place earlier (t ∷ ts) h d =
    let parts = both (not (list_any (same_taint t) earlier)) (taints_differ (earlier ++ t ∷ []) ts) d in
    taints_from-step names names path place earlier (taint_of names t) (items_of (map (taint_of names) ts)) t (taint-back names once (member_path path (codes "/spec/taints/") place) earlier t h.0 (not_true _ parts.0))
    ∙ taints_from-back names once path (place + 1) (earlier ++ t ∷ []) ts h.1 parts.1
    ∙ ap (λ xs. Ok (xs, names)) (append_assoc earlier (t ∷ []) ts)

tolerations_from-back : (names : Texts) (once : EachOnce names) (path key : List ℕ) (place : ℕ) (earlier ts : List Toleration) → AllByRecursion (IsReadableToleration names) ts
    → tolerations_from names path key place earlier (items_of (map (toleration_of names) ts)) ≡ Ok (earlier ++ ts, names)
unfolding tolerations_from
tolerations_from-back names once path key place earlier [] h = ap (λ ts. Ok (ts, names)) (sym (append_nil earlier))
tolerations_from-back names once path key place earlier (t ∷ ts) h =
    tolerations_from-step names names path key place earlier (toleration_of names t) (items_of (map (toleration_of names) ts)) t (toleration-back names once (member_path path key place) t h.0)
    ∙ tolerations_from-back names once path key (place + 1) (earlier ++ t ∷ []) ts h.1
    ∙ ap (λ xs. Ok (xs, names)) (append_assoc earlier (t ∷ []) ts)

taints-back : (names : Texts) (once : EachOnce names) (path : List ℕ) (n : Node) → AllByRecursion (IsReadableTaint names) n.taints → length n.taints ≤ 100 → taints_differ [] n.taints ≡ true
    → taints_at names path (node_spec_of names n) ≡ Ok (n.taints, names)
unfolding taints_at node_spec_of
taints-back names once path n each few differ =
    let place = path ++ codes "/spec/taints" in
    let all = items_of (map (taint_of names) n.taints) in
    let fs : List Field = (codes "taints", filled_array all) ∷ [] in
    ap (λ o. items_at place o >>= λ xs. hundred place xs >>= λ ys. taints_from names path 0 [] ys) (field_in-is (codes "taints") fs refl)
    ∙ ap (λ a. a >>= λ xs. hundred place xs >>= λ ys. taints_from names path 0 [] ys) (items-back place all)
    ∙ ap (λ a. a >>= λ ys. taints_from names path 0 [] ys) (hundred-back place (taint_of names) n.taints few)
    ∙ taints_from-back names once path 0 [] n.taints each differ

conditions_from-back : (names : Texts) (once : EachOnce names) (path : List ℕ) (r : Option Ready) → IsReadableReady names r → conditions_from names path 0 None (conditions_of names r) ≡ Ok (r, names)
unfolding conditions_from conditions_of
conditions_from-back names once path None h = refl
conditions_from-back names once path (Some r) h = conditions_from-step names names path 0 None (Some r) (condition_of names r) no_items (condition-back names once (member_path path (codes "/status/conditions/") 0) r h)

conditions-back : (names : Texts) (once : EachOnce names) (path : List ℕ) (n : Node) → IsReadableReady names n.ready → conditions_at names path (node_status_of names n) ≡ Ok (n.ready, names)
unfolding conditions_at node_status_of
conditions-back names once path n h =
    let place = path ++ codes "/status/conditions" in
    let all = conditions_of names n.ready in
    let fs : List Field = (codes "conditions", filled_array all) ∷ [] in
    ap (λ o. items_at place o >>= λ xs. conditions_from names path 0 None xs) (field_in-is (codes "conditions") fs refl)
    ∙ ap (λ a. a >>= λ xs. conditions_from names path 0 None xs) (items-back place all)
    ∙ conditions_from-back names once path n.ready h

-- ---- metadata

name-back : (names : Texts) (once : EachOnce names) (path : List ℕ) (fs : List Field) (n : ℕ) → distinct fs ≡ true → lookup (codes "name") fs ≡ Some (string (text_of names n)) → IsNameNumber names n
    → name_at names path (Some (object (members_of fs))) ≡ Ok (n, names)
unfolding name_at
name-back names once path fs n d is h =
    let place = path ++ codes "/metadata/name" in
    ap (λ o. name_text_at place o >>= λ t. named names place t) (field-is (codes "name") fs d ∙ ap unless_null is) ∙ named-back names once place n h

space-back : (names : Texts) (once : EachOnce names) (path : List ℕ) (fs : List Field) (n : ℕ) → distinct fs ≡ true → lookup (codes "namespace") fs ≡ Some (string (text_of names n)) → IsNameNumber names n
    → space_at names path (Some (object (members_of fs))) ≡ Ok (n, names)
unfolding space_at
space-back names once path fs n d is h =
    let place = path ++ codes "/metadata/namespace" in
    ap (λ o. space_text_at place o >>= λ t. named names place t) (field-is (codes "namespace") fs d ∙ ap unless_null is) ∙ named-back names once place n h

key-back : (names : Texts) (once : EachOnce names) (path : List ℕ) (kind : Kind) (key : Key) → key.kind ≡ kind → IsNameNumber names key.space → IsNameNumber names key.name
    → spaced_key_at names path kind (Some (metadata_of names key)) ≡ Ok (key, names)
unfolding spaced_key_at metadata_of
key-back names once path kind key is space name =
    let fs : List Field = (codes "name", text (text_of names key.name)) ∷ (codes "namespace", text (text_of names key.space)) ∷ [] in
    let metadata = Some (object (members_of fs)) in
    ap (λ a. a >>= λ s. name_at s.1 path metadata >>= λ n. Ok (record { kind = kind; space = s.0; name = n.0 }, n.1)) (space-back names once path fs key.space refl refl space)
    ∙ ap (λ a. a >>= λ n. Ok (record { kind = kind; space = key.space; name = n.0 }, n.1)) (name-back names once path fs key.name refl refl name)
    ∙ ap (λ k. Ok (record { kind = k; space = key.space; name = key.name }, names)) (sym is)

label-back : (names : Texts) (once : EachOnce names) (path place key : List ℕ) (fs : List Field) (n : ℕ) → distinct fs ≡ true → lookup key fs ≡ filled_text (text_of names n) → IsLabelNumber names n
    → label_at names path place key (filled_object (members_of fs)) ≡ Ok (n, names)
unfolding label_at
label-back names once path place key fs n d is h =
    ap (λ o. text_at WRONG_JSON (path ++ place) o >>= λ t. label_from names (path ++ codes "/metadata/labels") t) (field_in-is key fs d ∙ ap unless_null is)
    ∙ ap (λ a. a >>= λ t. label_from names (path ++ codes "/metadata/labels") t) (text-back WRONG_JSON (path ++ place) (text_of names n))
    ∙ ap (λ b. cond b (numbered names (text_of names n)) (refuse BAD_LABEL (path ++ codes "/metadata/labels"))) h.1
    ∙ numbered-back names once n h.0

labels-back : (names : Texts) (once : EachOnce names) (path : List ℕ) (key : Key) (n : Node) → IsLabelNumber names n.region → IsLabelNumber names n.zone
    → labels_at names path (Some (node_metadata_of names key n)) ≡ Ok (n.region, n.zone, names)
unfolding labels_at node_metadata_of labels_of
labels-back names once path key n region zone =
    let rk = codes "topology.kubernetes.io/region" in
    let zk = codes "topology.kubernetes.io/zone" in
    let ls : List Field = (rk, filled_text (text_of names n.region)) ∷ (zk, filled_text (text_of names n.zone)) ∷ [] in
    let labels = filled_object (members_of ls) in
    let fs : List Field = (codes "labels", labels) ∷ (codes "name", text (text_of names key.name)) ∷ [] in
    let rp = codes "/metadata/labels/topology.kubernetes.io/region" in
    let zp = codes "/metadata/labels/topology.kubernetes.io/zone" in
    ap (λ o. parent_at (path ++ codes "/metadata/labels") o >>= λ l. label_at names path rp rk l >>= λ r. label_at r.1 path zp zk l >>= λ z. Ok (r.0, z.0, z.1)) (field-is (codes "labels") fs refl ∙ filled_object-there (members_of ls))
    ∙ ap (λ a. a >>= λ l. label_at names path rp rk l >>= λ r. label_at r.1 path zp zk l >>= λ z. Ok (r.0, z.0, z.1)) (parent-back (path ++ codes "/metadata/labels") (members_of ls))
    ∙ ap (λ a. a >>= λ r. label_at r.1 path zp zk labels >>= λ z. Ok (r.0, z.0, z.1)) (label-back names once path rp rk ls n.region refl refl region)
    ∙ ap (λ a. a >>= λ z. Ok (n.region, z.0, z.1)) (label-back names once path zp zk ls n.zone refl refl zone)

-- ---- objects

node-parts : (names : Texts) (path : List ℕ) (d : Data) (key : Key) (n : Node) (M S T : Option Data) → parent_at (path ++ codes "/metadata") (field (codes "metadata") d) ≡ Ok M
    → name_at names path M ≡ Ok (key.name, names) → labels_at names path M ≡ Ok (n.region, n.zone, names) → parent_at (path ++ codes "/spec") (field (codes "spec") d) ≡ Ok S
    → taints_at names path S ≡ Ok (n.taints, names) → parent_at (path ++ codes "/status") (field (codes "status") d) ≡ Ok T → conditions_at names path T ≡ Ok (n.ready, names)
    → key.kind ≡ kinds.Node → key.space ≡ 0 → node_at names path d ≡ Ok ((key, objects.Node n), names)
unfolding node_at
node-parts names path d key n M S T m na la s ta st co kind space =
    ap (λ answer. answer >>= λ META. name_at names path META >>= λ NAME. labels_at NAME.1 path META >>= λ LABELS. parent_at (path ++ codes "/spec") (field (codes "spec") d) >>= λ SPEC. taints_at LABELS.2 path SPEC >>= λ TAINTS. parent_at (path ++ codes "/status") (field (codes "status") d) >>= λ STATUS. conditions_at TAINTS.1 path STATUS >>= λ READY. Ok ((record { kind = kinds.Node; space = 0; name = NAME.0 }, objects.Node (record { region = LABELS.0; zone = LABELS.1; taints = TAINTS.0; ready = READY.0 })), READY.1)) (m)
    ∙ ap (λ answer. answer >>= λ NAME. labels_at NAME.1 path M >>= λ LABELS. parent_at (path ++ codes "/spec") (field (codes "spec") d) >>= λ SPEC. taints_at LABELS.2 path SPEC >>= λ TAINTS. parent_at (path ++ codes "/status") (field (codes "status") d) >>= λ STATUS. conditions_at TAINTS.1 path STATUS >>= λ READY. Ok ((record { kind = kinds.Node; space = 0; name = NAME.0 }, objects.Node (record { region = LABELS.0; zone = LABELS.1; taints = TAINTS.0; ready = READY.0 })), READY.1)) (na)
    ∙ ap (λ answer. answer >>= λ LABELS. parent_at (path ++ codes "/spec") (field (codes "spec") d) >>= λ SPEC. taints_at LABELS.2 path SPEC >>= λ TAINTS. parent_at (path ++ codes "/status") (field (codes "status") d) >>= λ STATUS. conditions_at TAINTS.1 path STATUS >>= λ READY. Ok ((record { kind = kinds.Node; space = 0; name = key.name }, objects.Node (record { region = LABELS.0; zone = LABELS.1; taints = TAINTS.0; ready = READY.0 })), READY.1)) (la)
    ∙ ap (λ answer. answer >>= λ SPEC. taints_at names path SPEC >>= λ TAINTS. parent_at (path ++ codes "/status") (field (codes "status") d) >>= λ STATUS. conditions_at TAINTS.1 path STATUS >>= λ READY. Ok ((record { kind = kinds.Node; space = 0; name = key.name }, objects.Node (record { region = n.region; zone = n.zone; taints = TAINTS.0; ready = READY.0 })), READY.1)) (s)
    ∙ ap (λ answer. answer >>= λ TAINTS. parent_at (path ++ codes "/status") (field (codes "status") d) >>= λ STATUS. conditions_at TAINTS.1 path STATUS >>= λ READY. Ok ((record { kind = kinds.Node; space = 0; name = key.name }, objects.Node (record { region = n.region; zone = n.zone; taints = TAINTS.0; ready = READY.0 })), READY.1)) (ta)
    ∙ ap (λ answer. answer >>= λ STATUS. conditions_at names path STATUS >>= λ READY. Ok ((record { kind = kinds.Node; space = 0; name = key.name }, objects.Node (record { region = n.region; zone = n.zone; taints = n.taints; ready = READY.0 })), READY.1)) (st)
    ∙ ap (λ answer. answer >>= λ READY. Ok ((record { kind = kinds.Node; space = 0; name = key.name }, objects.Node (record { region = n.region; zone = n.zone; taints = n.taints; ready = READY.0 })), READY.1)) (co)
    ∙ ap (λ k. Ok ((record { kind = k; space = 0; name = key.name }, objects.Node n), names)) (sym kind)
    ∙ ap (λ x. Ok ((record { kind = key.kind; space = x; name = key.name }, objects.Node n), names)) (sym space)

node-back : (names : Texts) (once : EachOnce names) (path : List ℕ) (key : Key) (n : Node) → IsReadableNode names key n → node_at names path (node_of names key n) ≡ Ok ((key, objects.Node n), names)
unfolding node_of node_metadata_of node_spec_of node_status_of
node-back names once path key n h =
    let ms : List Field = (codes "labels", labels_of names n) ∷ (codes "name", text (text_of names key.name)) ∷ [] in
    let ss : List Field = (codes "taints", filled_array (items_of (map (taint_of names) n.taints))) ∷ [] in
    let ts : List Field = (codes "conditions", filled_array (conditions_of names n.ready)) ∷ [] in
    let fs : List Field = (codes "apiVersion", text (codes "v1")) ∷ (codes "kind", text (codes "Node")) ∷ (codes "metadata", Some (object (members_of ms))) ∷ (codes "spec", filled_object (members_of ss)) ∷ (codes "status", filled_object (members_of ts)) ∷ [] in
    node-parts names path (object (members_of fs)) key n (Some (object (members_of ms))) (filled_object (members_of ss)) (filled_object (members_of ts))
    (ap (parent_at (path ++ codes "/metadata")) (field-is (codes "metadata") fs refl))
    (name-back names once path ms key.name refl refl h.name)
    (labels-back names once path key n h.region h.zone)
    (ap (parent_at (path ++ codes "/spec")) (field-is (codes "spec") fs refl ∙ filled_object-there (members_of ss)) ∙ parent-back (path ++ codes "/spec") (members_of ss))
    (taints-back names once path n h.taints h.few h.differ)
    (ap (parent_at (path ++ codes "/status")) (field-is (codes "status") fs refl ∙ filled_object-there (members_of ts)) ∙ parent-back (path ++ codes "/status") (members_of ts))
    (conditions-back names once path n h.ready) h.kind h.space

lease-parts : (names : Texts) (known path : List ℕ) (s : Option Data) (l : Lease) (t : List ℕ) → text_at WRONG_JSON (path ++ codes "/spec/holderIdentity") (field_in (codes "holderIdentity") s) ≡ Ok t
    → holder_of names known t ≡ Ok (l.holder, names) → count_at (path ++ codes "/spec/leaseDurationSeconds") (field_in (codes "leaseDurationSeconds") s) ≡ Ok l.duration
    → time_at (path ++ codes "/spec/acquireTime") (field_in (codes "acquireTime") s) ≡ Ok l.acquired → time_at (path ++ codes "/spec/renewTime") (field_in (codes "renewTime") s) ≡ Ok l.renewed
    → count_at (path ++ codes "/spec/leaseTransitions") (field_in (codes "leaseTransitions") s) ≡ Ok l.transitions → lease_spec_at names known path s ≡ Ok (l, names)
unfolding lease_spec_at
lease-parts names known path s l t te ho du ac re tr =
    ap (λ answer. answer >>= λ TEXT. holder_of names known TEXT >>= λ HOLDER. count_at (path ++ codes "/spec/leaseDurationSeconds") (field_in (codes "leaseDurationSeconds") s) >>= λ DURATION. time_at (path ++ codes "/spec/acquireTime") (field_in (codes "acquireTime") s) >>= λ ACQUIRED. time_at (path ++ codes "/spec/renewTime") (field_in (codes "renewTime") s) >>= λ RENEWED. count_at (path ++ codes "/spec/leaseTransitions") (field_in (codes "leaseTransitions") s) >>= λ TRANSITIONS. Ok (record { holder = HOLDER.0; duration = DURATION; acquired = ACQUIRED; renewed = RENEWED; transitions = TRANSITIONS }, HOLDER.1)) (te)
    ∙ ap (λ answer. answer >>= λ HOLDER. count_at (path ++ codes "/spec/leaseDurationSeconds") (field_in (codes "leaseDurationSeconds") s) >>= λ DURATION. time_at (path ++ codes "/spec/acquireTime") (field_in (codes "acquireTime") s) >>= λ ACQUIRED. time_at (path ++ codes "/spec/renewTime") (field_in (codes "renewTime") s) >>= λ RENEWED. count_at (path ++ codes "/spec/leaseTransitions") (field_in (codes "leaseTransitions") s) >>= λ TRANSITIONS. Ok (record { holder = HOLDER.0; duration = DURATION; acquired = ACQUIRED; renewed = RENEWED; transitions = TRANSITIONS }, HOLDER.1)) (ho)
    ∙ ap (λ answer. answer >>= λ DURATION. time_at (path ++ codes "/spec/acquireTime") (field_in (codes "acquireTime") s) >>= λ ACQUIRED. time_at (path ++ codes "/spec/renewTime") (field_in (codes "renewTime") s) >>= λ RENEWED. count_at (path ++ codes "/spec/leaseTransitions") (field_in (codes "leaseTransitions") s) >>= λ TRANSITIONS. Ok (record { holder = l.holder; duration = DURATION; acquired = ACQUIRED; renewed = RENEWED; transitions = TRANSITIONS }, names)) (du)
    ∙ ap (λ answer. answer >>= λ ACQUIRED. time_at (path ++ codes "/spec/renewTime") (field_in (codes "renewTime") s) >>= λ RENEWED. count_at (path ++ codes "/spec/leaseTransitions") (field_in (codes "leaseTransitions") s) >>= λ TRANSITIONS. Ok (record { holder = l.holder; duration = l.duration; acquired = ACQUIRED; renewed = RENEWED; transitions = TRANSITIONS }, names)) (ac)
    ∙ ap (λ answer. answer >>= λ RENEWED. count_at (path ++ codes "/spec/leaseTransitions") (field_in (codes "leaseTransitions") s) >>= λ TRANSITIONS. Ok (record { holder = l.holder; duration = l.duration; acquired = l.acquired; renewed = RENEWED; transitions = TRANSITIONS }, names)) (re)
    ∙ ap (λ answer. answer >>= λ TRANSITIONS. Ok (record { holder = l.holder; duration = l.duration; acquired = l.acquired; renewed = l.renewed; transitions = TRANSITIONS }, names)) (tr)

lease_spec-back : (names : Texts) (once : EachOnce names) (known path : List ℕ) (key : Key) (l : Lease) → IsReadableLease names known key l → lease_spec_at names known path (lease_spec_of names known l) ≡ Ok (l, names)
unfolding lease_spec_of
lease_spec-back names once known path key l h =
    let fs : List Field = (codes "acquireTime", in_micros l.acquired) ∷ (codes "holderIdentity", filled_text (holder_text names known l.holder)) ∷ (codes "leaseDurationSeconds", count l.duration) ∷ (codes "leaseTransitions", count l.transitions) ∷ (codes "renewTime", in_micros l.renewed) ∷ [] in
    lease-parts names known path (filled_object (members_of fs)) l (holder_text names known l.holder)
    (ap (text_at WRONG_JSON (path ++ codes "/spec/holderIdentity")) (field_in-is (codes "holderIdentity") fs refl) ∙ text-back WRONG_JSON (path ++ codes "/spec/holderIdentity") (holder_text names known l.holder))
    (holder-back names once known l.holder h.holder)
    (ap (count_at (path ++ codes "/spec/leaseDurationSeconds")) (field_in-is (codes "leaseDurationSeconds") fs refl) ∙ count-back (path ++ codes "/spec/leaseDurationSeconds") l.duration h.duration)
    (ap (time_at (path ++ codes "/spec/acquireTime")) (field_in-is (codes "acquireTime") fs refl) ∙ micros-back (path ++ codes "/spec/acquireTime") l.acquired h.acquired)
    (ap (time_at (path ++ codes "/spec/renewTime")) (field_in-is (codes "renewTime") fs refl) ∙ micros-back (path ++ codes "/spec/renewTime") l.renewed h.renewed)
    (ap (count_at (path ++ codes "/spec/leaseTransitions")) (field_in-is (codes "leaseTransitions") fs refl) ∙ count-back (path ++ codes "/spec/leaseTransitions") l.transitions h.transitions)

lease-back : (names : Texts) (once : EachOnce names) (known path : List ℕ) (key : Key) (l : Lease) → IsReadableLease names known key l → lease_at names known path (lease_of names known key l) ≡ Ok ((key, objects.Lease l), names)
unfolding lease_at lease_of lease_spec_of metadata_of
lease-back names once known path key l h =
    let ms : List Field = (codes "name", text (text_of names key.name)) ∷ (codes "namespace", text (text_of names key.space)) ∷ [] in
    let ss : List Field = (codes "acquireTime", in_micros l.acquired) ∷ (codes "holderIdentity", filled_text (holder_text names known l.holder)) ∷ (codes "leaseDurationSeconds", count l.duration) ∷ (codes "leaseTransitions", count l.transitions) ∷ (codes "renewTime", in_micros l.renewed) ∷ [] in
    let fs : List Field = (codes "apiVersion", text (codes "coordination.k8s.io/v1")) ∷ (codes "kind", text (codes "Lease")) ∷ (codes "metadata", Some (object (members_of ms))) ∷ (codes "spec", filled_object (members_of ss)) ∷ [] in
    let d = object (members_of fs) in
    ap (λ o. parent_at (path ++ codes "/metadata") o >>= λ m. spaced_key_at names path kinds.Lease m >>= λ k. parent_at (path ++ codes "/spec") (field (codes "spec") d) >>= λ s. lease_spec_at k.1 known path s >>= λ x. Ok ((k.0, objects.Lease x.0), x.1)) (field-is (codes "metadata") fs refl)
    ∙ ap (λ a. a >>= λ k. parent_at (path ++ codes "/spec") (field (codes "spec") d) >>= λ s. lease_spec_at k.1 known path s >>= λ x. Ok ((k.0, objects.Lease x.0), x.1)) (key-back names once path kinds.Lease key h.kind h.space h.name)
    ∙ ap (λ o. parent_at (path ++ codes "/spec") o >>= λ s. lease_spec_at names known path s >>= λ x. Ok ((key, objects.Lease x.0), x.1)) (field-is (codes "spec") fs refl ∙ filled_object-there (members_of ss))
    ∙ ap (λ a. a >>= λ s. lease_spec_at names known path s >>= λ x. Ok ((key, objects.Lease x.0), x.1)) (parent-back (path ++ codes "/spec") (members_of ss))
    ∙ ap (λ a. a >>= λ x. Ok ((key, objects.Lease x.0), x.1)) (lease_spec-back names once known path key l h)

node_name-from : (names : Texts) (once : EachOnce names) (path : List ℕ) (n : ℕ) → IsNodeNumber names n → node_name_from names path (text_of names n) ≡ Ok (n, names)
node_name-from names once path n h = by (length (text_of names n) == 0) refl
  where
    by : (b : Bool) → (length (text_of names n) == 0) ≡ b → cond b (numbered names (text_of names n)) (named names path (text_of names n)) ≡ Ok (n, names)
    by true e = numbered-back names once n h.0
    by false e = named-back names once path n (h.0, h.1 e)

node_name-back : (names : Texts) (once : EachOnce names) (path : List ℕ) (p : Pod) → IsNodeNumber names p.node → node_name_at names path (pod_spec_of names p) ≡ Ok (p.node, names)
unfolding node_name_at pod_spec_of
node_name-back names once path p h =
    let place = path ++ codes "/spec/nodeName" in
    let fs : List Field = (codes "nodeName", filled_text (text_of names p.node)) ∷ (codes "tolerations", filled_array (items_of (map (toleration_of names) p.tolerations))) ∷ [] in
    ap (λ o. text_at WRONG_JSON place o >>= λ t. node_name_from names place t) (field_in-is (codes "nodeName") fs refl)
    ∙ ap (λ a. a >>= λ t. node_name_from names place t) (text-back WRONG_JSON place (text_of names p.node))
    ∙ node_name-from names once place p.node h

tolerations-back : (names : Texts) (once : EachOnce names) (path : List ℕ) (p : Pod) → AllByRecursion (IsReadableToleration names) p.tolerations → length p.tolerations ≤ 100
    → tolerations_at names path (pod_spec_of names p) ≡ Ok (p.tolerations, names)
unfolding tolerations_at pod_spec_of
tolerations-back names once path p each few =
    let place = path ++ codes "/spec/tolerations" in
    let all = items_of (map (toleration_of names) p.tolerations) in
    let fs : List Field = (codes "nodeName", filled_text (text_of names p.node)) ∷ (codes "tolerations", filled_array all) ∷ [] in
    ap (λ o. items_at place o >>= λ xs. hundred place xs >>= λ ys. tolerations_from names path (codes "/spec/tolerations/") 0 [] ys) (field_in-is (codes "tolerations") fs refl)
    ∙ ap (λ a. a >>= λ xs. hundred place xs >>= λ ys. tolerations_from names path (codes "/spec/tolerations/") 0 [] ys) (items-back place all)
    ∙ ap (λ a. a >>= λ ys. tolerations_from names path (codes "/spec/tolerations/") 0 [] ys) (hundred-back place (toleration_of names) p.tolerations few)
    ∙ tolerations_from-back names once path (codes "/spec/tolerations/") 0 [] p.tolerations each

pod-back : (names : Texts) (once : EachOnce names) (path : List ℕ) (key : Key) (p : Pod) → IsReadablePod names key p → pod_at names path (pod_of names key p) ≡ Ok ((key, objects.Pod p), names)
unfolding pod_at pod_of pod_spec_of metadata_of
pod-back names once path key p h =
    let ms : List Field = (codes "name", text (text_of names key.name)) ∷ (codes "namespace", text (text_of names key.space)) ∷ [] in
    let ss : List Field = (codes "nodeName", filled_text (text_of names p.node)) ∷ (codes "tolerations", filled_array (items_of (map (toleration_of names) p.tolerations))) ∷ [] in
    let fs : List Field = (codes "apiVersion", text (codes "v1")) ∷ (codes "kind", text (codes "Pod")) ∷ (codes "metadata", Some (object (members_of ms))) ∷ (codes "spec", filled_object (members_of ss)) ∷ [] in
    let d = object (members_of fs) in
    ap (λ o. parent_at (path ++ codes "/metadata") o >>= λ m. spaced_key_at names path kinds.Pod m >>= λ k. parent_at (path ++ codes "/spec") (field (codes "spec") d) >>= λ s. node_name_at k.1 path s >>= λ n. tolerations_at n.1 path s >>= λ t. Ok ((k.0, objects.Pod (record { node = n.0; tolerations = t.0 })), t.1)) (field-is (codes "metadata") fs refl)
    ∙ ap (λ a. a >>= λ k. parent_at (path ++ codes "/spec") (field (codes "spec") d) >>= λ s. node_name_at k.1 path s >>= λ n. tolerations_at n.1 path s >>= λ t. Ok ((k.0, objects.Pod (record { node = n.0; tolerations = t.0 })), t.1)) (key-back names once path kinds.Pod key h.kind h.space h.name)
    ∙ ap (λ o. parent_at (path ++ codes "/spec") o >>= λ s. node_name_at names path s >>= λ n. tolerations_at n.1 path s >>= λ t. Ok ((key, objects.Pod (record { node = n.0; tolerations = t.0 })), t.1)) (field-is (codes "spec") fs refl ∙ filled_object-there (members_of ss))
    ∙ ap (λ a. a >>= λ s. node_name_at names path s >>= λ n. tolerations_at n.1 path s >>= λ t. Ok ((key, objects.Pod (record { node = n.0; tolerations = t.0 })), t.1)) (parent-back (path ++ codes "/spec") (members_of ss))
    ∙ ap (λ a. a >>= λ n. tolerations_at n.1 path (filled_object (members_of ss)) >>= λ t. Ok ((key, objects.Pod (record { node = n.0; tolerations = t.0 })), t.1)) (node_name-back names once path p h.node)
    ∙ ap (λ a. a >>= λ t. Ok ((key, objects.Pod (record { node = p.node; tolerations = t.0 })), t.1)) (tolerations-back names once path p h.tolerations h.few)

-- ---- lists

kind-back : (path : List ℕ) (fs : List Field) (v k : List ℕ) → distinct fs ≡ true → lookup (codes "apiVersion") fs ≡ Some (string v) → lookup (codes "kind") fs ≡ Some (string k)
    → kind_at path (object (members_of fs)) ≡ Ok (kind_from v k)
unfolding kind_at
kind-back path fs v k d version kind =
    ap (λ o. or_refuse (option_and_then as_str o) BAD_KIND path >>= λ x. or_refuse (option_and_then as_str (get_member (codes "kind") (members_of fs))) BAD_KIND path >>= λ y. Ok (kind_from x y)) (get-lookup (codes "apiVersion") fs d ∙ version)
    ∙ ap (λ o. or_refuse (option_and_then as_str o) BAD_KIND path >>= λ y. Ok (kind_from v y)) (get-lookup (codes "kind") fs d ∙ kind)

item-back : (names : Texts) (once : EachOnce names) (known path : List ℕ) (key : Key) (o : Object) → IsReadableItem names known (key, o) → item_at names known path (object_of names known (key, o)) ≡ Ok (Some (key, o), names)
unfolding item_at object_of of_kind_at node_of lease_of pod_of
item-back names once known path key (objects.Node n) h =
    let fs : List Field = (codes "apiVersion", text (codes "v1")) ∷ (codes "kind", text (codes "Node")) ∷ (codes "metadata", Some (node_metadata_of names key n)) ∷ (codes "spec", node_spec_of names n) ∷ (codes "status", node_status_of names n) ∷ [] in
    let d = object (members_of fs) in
    ap (λ a. a >>= λ k. if_kind names known path d k) (kind-back path fs (codes "v1") (codes "Node") refl refl refl)
    ∙ ap (λ a. a >>= λ found. Ok (Some found.0, found.1)) (node-back names once path key n h)
item-back names once known path key (objects.Lease l) h =
    let fs : List Field = (codes "apiVersion", text (codes "coordination.k8s.io/v1")) ∷ (codes "kind", text (codes "Lease")) ∷ (codes "metadata", Some (metadata_of names key)) ∷ (codes "spec", lease_spec_of names known l) ∷ [] in
    let d = object (members_of fs) in
    ap (λ a. a >>= λ k. if_kind names known path d k) (kind-back path fs (codes "coordination.k8s.io/v1") (codes "Lease") refl refl refl)
    ∙ ap (λ a. a >>= λ found. Ok (Some found.0, found.1)) (lease-back names once known path key l h)
item-back names once known path key (objects.Pod p) h =
    let fs : List Field = (codes "apiVersion", text (codes "v1")) ∷ (codes "kind", text (codes "Pod")) ∷ (codes "metadata", Some (metadata_of names key)) ∷ (codes "spec", pod_spec_of names p) ∷ [] in
    let d = object (members_of fs) in
    ap (λ a. a >>= λ k. if_kind names known path d k) (kind-back path fs (codes "v1") (codes "Pod") refl refl refl)
    ∙ ap (λ a. a >>= λ found. Ok (Some found.0, found.1)) (pod-back names once path key p h)

found-added : (scale : Scale) (path : List ℕ) (earlier : List (Key × Object)) (i : Key × Object) → has_key i.0 earlier ≡ false → nat_lt (kind_count i.0.kind earlier) (kind_limit scale i.0.kind) ≡ true → with_found scale path earlier i ≡ Ok (earlier ++ i ∷ [])
found-added scale path earlier i new room =
    ap (λ b. cond b (refuse DUPLICATE path) (cond (nat_lt (kind_count i.0.kind earlier) (kind_limit scale i.0.kind)) (Ok (earlier ++ i ∷ [])) (refuse TOO_MANY path))) new
    ∙ ap (λ b. cond b (Ok (earlier ++ i ∷ [])) (refuse TOO_MANY path)) room

item-added : (scale : Scale) (path : List ℕ) (earlier : List (Key × Object)) (i : Key × Object) → with_found scale path earlier i ≡ Ok (earlier ++ i ∷ []) → with_item scale path earlier (Some i) ≡ Ok (earlier ++ i ∷ [], 0)
item-added scale path earlier i added = ap (λ (a : Result (List (Key × Object)) Refusal). a >>= λ (more : List (Key × Object)). Ok (more, 0)) added

step-back : (scale : Scale) (names : Texts) (once : EachOnce names) (known path : List ℕ) (earlier : List (Key × Object)) (i : Key × Object) → IsReadableItem names known i → has_key i.0 earlier ≡ false
    → nat_lt (kind_count i.0.kind earlier) (kind_limit scale i.0.kind) ≡ true → list_step scale names known path earlier (object_of names known i) ≡ Ok ((earlier ++ i ∷ [], 0), names)
unfolding list_step
step-back scale names once known path earlier i h new room =
    ap (λ (a : Result (Option (Key × Object) × Texts) Refusal). a >>= λ found. with_item scale path earlier found.0 >>= λ next. Ok (next, found.1)) (item-back names once known path i.0 i.1 h)
    ∙ ap (λ (a : Result (List (Key × Object) × ℕ) Refusal). a >>= λ next. Ok (next, names)) (item-added scale path earlier i (found-added scale path earlier i new room))

list_from-back : (scale : Scale) (names : Texts) (once : EachOnce names) (known path : List ℕ) (place : ℕ) (earlier items : List (Key × Object)) → AllByRecursion (IsReadableItem names known) items → items_fit scale earlier items ≡ true
    → list_from scale names known path place earlier 0 (items_of (map (object_of names known) items)) ≡ Ok ((earlier ++ items, 0), names)
unfolding list_from
list_from-back scale names once known path place earlier [] h fit = ap (λ xs. Ok ((xs, 0), names)) (sym (append_nil earlier))
list_from-back scale names once known path place earlier (i ∷ rest) h fit =
    let parts = three (not (has_key i.0 earlier)) (nat_lt (kind_count i.0.kind earlier) (kind_limit scale i.0.kind)) (items_fit scale (earlier ++ i ∷ []) rest) fit in
    list_from-step scale names names known path place earlier (earlier ++ i ∷ []) 0 0 (object_of names known i) (items_of (map (object_of names known) rest)) (step-back scale names once known (member_path path (codes "/items/") place) earlier i h.0 (not_true _ parts.0) parts.1)
    ∙ list_from-back scale names once known path (place + 1) (earlier ++ i ∷ []) rest h.1 parts.2
    ∙ ap (λ xs. Ok ((xs, 0), names)) (append_assoc earlier (i ∷ []) rest)

-- a written List is read back, at any path
pub list-back : (scale : Scale) (names : Texts) (once : EachOnce names) (known path : List ℕ) (items : List (Key × Object)) → IsReadable scale names known items → list_walk scale names known path (list_of names known items) ≡ Ok ((items, 0), names)
unfolding list_walk list_of
list-back scale names once known path items h =
    let all = items_of (map (object_of names known) items) in
    let fs : List Field = (codes "apiVersion", text (codes "v1")) ∷ (codes "items", Some (array all)) ∷ (codes "kind", text (codes "List")) ∷ [] in
    let d = object (members_of fs) in
    let place = path ++ codes "/items" in
    ap (λ o. cond (is_text (codes "v1") (option_and_then as_str o) && is_text (codes "List") (option_and_then as_str (get_member (codes "kind") (members_of fs)))) (Ok d) (refuse BAD_KIND path) >>= λ x. items_at place (field (codes "items") x) >>= λ xs. list_from scale names known path 0 [] 0 xs) (get-lookup (codes "apiVersion") fs refl)
    ∙ ap (λ o. cond (is_text (codes "List") (option_and_then as_str o)) (Ok d) (refuse BAD_KIND path) >>= λ x. items_at place (field (codes "items") x) >>= λ xs. list_from scale names known path 0 [] 0 xs) (get-lookup (codes "kind") fs refl)
    ∙ ap (λ o. items_at place o >>= λ xs. list_from scale names known path 0 [] 0 xs) (field-is (codes "items") fs refl)
    ∙ list_from-back scale names once known path 0 [] items h.each h.fit

-- so is a value that is the List, if there is one
pub reads-back : {E : Type 0} (names : Texts) (once : EachOnce names) (known : List ℕ) (items : List (Key × Object)) (r : Result Value E) → IfOk r (λ value. view value ≡ list_of names known items)
    → IfOk r (λ value. (scale : Scale) → IsReadable scale names known items → (path : List ℕ) → list_walk scale names known path (view value) ≡ Ok ((items, 0), names))
reads-back names once known items (Ok value) is = λ scale h path. ap (list_walk scale names known path) is ∙ list-back scale names once known path items h
reads-back names once known items (Err e) is = tt
