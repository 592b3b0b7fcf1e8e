-- The `v1` List that is written: of each object the fields that are read, where they are there and not empty (profile: which fields).
-- Keys stand in the order of their bytes, as `serde_json` keeps them.
use Rattle.std.specs.Prelude.{ℕ, nat_le, ◌&&◌, ◌==◌, Bool, true, List, [], ◌∷◌, ◌++◌, length, map, codes, slice_get, Option, Some}
use Rattle.std.specs.Prelude.{None, unwrap_or, if◌then◌else◌}
use Rattle.std.specs.Fmt.{decimal}
use Rattle.std.specs.List.{list_all}
use Rattle.std.specs.Option.{option_map}
use Rattle.serde_json.specs.Data.{Data, object, array, string, number, unsigned, Items, no_items, item, Members, no_members, member, put}
use Rattle.serde_json.specs.Find.{of_integer}
use Rattle.serde_json.specs.View.{items_of}
use Rattle.kube_base.specs.Times.{seconds_text, micros_text, last_wall}
use Rattle.kube_base.specs.declared.numbers.Wall.{Wall}
use Rattle.kube_objects.specs.declared.key.Key.{Key}
use Rattle.kube_objects.specs.declared.lease.Holder.{Holder}
use Rattle.kube_objects.specs.declared.lease.Holder.TheVariants as holders
use Rattle.kube_objects.specs.declared.lease.Lease.{Lease}
use Rattle.kube_objects.specs.declared.node.Effect.{Effect}
use Rattle.kube_objects.specs.declared.node.Effect.TheVariants as effects
use Rattle.kube_objects.specs.declared.node.Node.{Node}
use Rattle.kube_objects.specs.declared.node.Ready.{Ready}
use Rattle.kube_objects.specs.declared.node.ReadyStatus.{ReadyStatus}
use Rattle.kube_objects.specs.declared.node.ReadyStatus.TheVariants as statuses
use Rattle.kube_objects.specs.declared.node.Taint.{Taint}
use Rattle.kube_objects.specs.declared.object.Object.{Object}
use Rattle.kube_objects.specs.declared.object.Object.TheVariants as objects
use Rattle.kube_objects.specs.declared.pod.Operator.{Operator}
use Rattle.kube_objects.specs.declared.pod.Operator.TheVariants as operators
use Rattle.kube_objects.specs.declared.pod.Pod.{Pod}
use Rattle.kube_objects.specs.declared.pod.Toleration.{Toleration}
use Rattle.manifest_json.specs.Fields.{Texts}

-- ---- fields

-- a field of an object, if it is there
abbrev pub Field : Type 0
Field = List ℕ × Option Data

-- the members with a field that is there
unfoldable pub with_field : List ℕ → Option Data → Members → Members
with_field key None members = members
with_field key (Some d) members = put key d members

-- the members of an object: the fields that are there
unfoldable pub members_of : List Field → Members
members_of [] = no_members
members_of (field ∷ rest) = with_field field.0 field.1 (members_of rest)

-- a text that is there
abbrev pub text : List ℕ → Option Data
text bytes = Some (string bytes)

-- a text, unless it is empty
unfoldable pub filled_text : List ℕ → Option Data
filled_text bytes = if length bytes == 0 then None else Some (string bytes)

-- an object that has a field
unfoldable pub filled_object : Members → Option Data
filled_object no_members = None
filled_object (member key d rest) = Some (object (member key d rest))

-- an array that has a member
unfoldable pub filled_array : Items → Option Data
filled_array no_items = None
filled_array (item d rest) = Some (array (item d rest))

-- the text of a number
abbrev pub text_of : Texts → ℕ → List ℕ
text_of names n = unwrap_or (slice_get names n) []

abbrev pub in_seconds : Option Wall → Option Data
in_seconds at = option_map (λ (w : Wall). string (seconds_text w)) at

abbrev pub in_micros : Option Wall → Option Data
in_micros at = option_map (λ (w : Wall). string (micros_text w)) at

abbrev pub count : Option ℕ → Option Data
count n = option_map (λ m. number (unsigned m)) n

-- ---- Nodes

abbrev pub effect_text : Effect → List ℕ
effect_text effects.NoSchedule = codes "NoSchedule"
effect_text effects.PreferNoSchedule = codes "PreferNoSchedule"
effect_text effects.NoExecute = codes "NoExecute"

unfoldable pub taint_of : Texts → Taint → Data
taint_of names t = object (members_of (
    (codes "effect", text (effect_text t.effect))
    ∷ (codes "key", filled_text (text_of names t.key))
    ∷ (codes "timeAdded", in_seconds t.added)
    ∷ (codes "value", filled_text (text_of names t.value)) ∷ []))

abbrev pub status_text : ReadyStatus → List ℕ
status_text statuses.True = codes "True"
status_text statuses.False = codes "False"
status_text statuses.Unknown = codes "Unknown"

unfoldable pub condition_of : Texts → Ready → Data
condition_of names r = object (members_of (
    (codes "lastHeartbeatTime", in_seconds r.heartbeat)
    ∷ (codes "lastTransitionTime", in_seconds r.transition)
    ∷ (codes "reason", filled_text (text_of names r.reason))
    ∷ (codes "status", text (status_text r.status))
    ∷ (codes "type", text (codes "Ready")) ∷ []))

-- the Ready condition, where there is one
unfoldable pub conditions_of : Texts → Option Ready → Items
conditions_of names None = no_items
conditions_of names (Some ready) = item (condition_of names ready) no_items

unfoldable pub labels_of : Texts → Node → Option Data
labels_of names n = filled_object (members_of (
    (codes "topology.kubernetes.io/region", filled_text (text_of names n.region))
    ∷ (codes "topology.kubernetes.io/zone", filled_text (text_of names n.zone)) ∷ []))

unfoldable pub node_metadata_of : Texts → Key → Node → Data
node_metadata_of names key n = object (members_of (
    (codes "labels", labels_of names n)
    ∷ (codes "name", text (text_of names key.name)) ∷ []))

unfoldable pub node_spec_of : Texts → Node → Option Data
node_spec_of names n = filled_object (members_of (
    (codes "taints", filled_array (items_of (map (taint_of names) n.taints))) ∷ []))

unfoldable pub node_status_of : Texts → Node → Option Data
node_status_of names n = filled_object (members_of (
    (codes "conditions", filled_array (conditions_of names n.ready)) ∷ []))

unfoldable pub node_of : Texts → Key → Node → Data
node_of names key n = object (members_of (
    (codes "apiVersion", text (codes "v1"))
    ∷ (codes "kind", text (codes "Node"))
    ∷ (codes "metadata", Some (node_metadata_of names key n))
    ∷ (codes "spec", node_spec_of names n)
    ∷ (codes "status", node_status_of names n) ∷ []))

-- ---- Leases

-- an identity is the controller's name, an underscore and the incarnation
abbrev pub holder_text : Texts → List ℕ → Holder → List ℕ
holder_text names known holders.Nobody = []
holder_text names known (holders.Proc p incarnation) = text_of names (unwrap_or (slice_get known p.0) 0) ++ codes "_" ++ decimal incarnation
holder_text names known (holders.Foreign n) = text_of names n

-- name and namespace
unfoldable pub metadata_of : Texts → Key → Data
metadata_of names key = object (members_of (
    (codes "name", text (text_of names key.name))
    ∷ (codes "namespace", text (text_of names key.space)) ∷ []))

unfoldable pub lease_spec_of : Texts → List ℕ → Lease → Option Data
lease_spec_of names known l = filled_object (members_of (
    (codes "acquireTime", in_micros l.acquired)
    ∷ (codes "holderIdentity", filled_text (holder_text names known l.holder))
    ∷ (codes "leaseDurationSeconds", count l.duration)
    ∷ (codes "leaseTransitions", count l.transitions)
    ∷ (codes "renewTime", in_micros l.renewed) ∷ []))

unfoldable pub lease_of : Texts → List ℕ → Key → Lease → Data
lease_of names known key l = object (members_of (
    (codes "apiVersion", text (codes "coordination.k8s.io/v1"))
    ∷ (codes "kind", text (codes "Lease"))
    ∷ (codes "metadata", Some (metadata_of names key))
    ∷ (codes "spec", lease_spec_of names known l) ∷ []))

-- ---- Pods

abbrev pub operator_text : Operator → List ℕ
operator_text operators.Exists = codes "Exists"
operator_text operators.Equal = codes "Equal"

unfoldable pub toleration_of : Texts → Toleration → Data
toleration_of names t = object (members_of (
    (codes "effect", option_map (λ effect. string (effect_text effect)) t.effect)
    ∷ (codes "key", filled_text (text_of names t.key))
    ∷ (codes "operator", text (operator_text t.operator))
    ∷ (codes "tolerationSeconds", option_map (λ seconds. number (of_integer seconds)) t.seconds)
    ∷ (codes "value", filled_text (text_of names t.value)) ∷ []))

unfoldable pub pod_spec_of : Texts → Pod → Option Data
pod_spec_of names p = filled_object (members_of (
    (codes "nodeName", filled_text (text_of names p.node))
    ∷ (codes "tolerations", filled_array (items_of (map (toleration_of names) p.tolerations))) ∷ []))

unfoldable pub pod_of : Texts → Key → Pod → Data
pod_of names key p = object (members_of (
    (codes "apiVersion", text (codes "v1"))
    ∷ (codes "kind", text (codes "Pod"))
    ∷ (codes "metadata", Some (metadata_of names key))
    ∷ (codes "spec", pod_spec_of names p) ∷ []))

-- ---- lists

unfoldable pub object_of : Texts → List ℕ → Key × Object → Data
object_of names known (key, objects.Node n) = node_of names key n
object_of names known (key, objects.Lease l) = lease_of names known key l
object_of names known (key, objects.Pod p) = pod_of names key p

unfoldable pub list_of : Texts → List ℕ → List (Key × Object) → Data
list_of names known items = object (members_of (
    (codes "apiVersion", text (codes "v1"))
    ∷ (codes "items", Some (array (items_of (map (object_of names known) items))))
    ∷ (codes "kind", text (codes "List")) ∷ []))

-- ---- times that are written

-- a time is not after 2261
abbrev pub is_writable : Option Wall → Bool
is_writable None = true
is_writable (Some w) = nat_le w.0 last_wall

abbrev pub is_writable_taint : Taint → Bool
is_writable_taint t = is_writable t.added

abbrev pub is_writable_condition : Option Ready → Bool
is_writable_condition None = true
is_writable_condition (Some r) = is_writable r.heartbeat && is_writable r.transition

abbrev pub is_writable_lease : Lease → Bool
is_writable_lease l = is_writable l.acquired && is_writable l.renewed

-- no time of the object is after 2261
abbrev pub is_writable_item : Key × Object → Bool
is_writable_item (key, objects.Node n) = list_all is_writable_taint n.taints && is_writable_condition n.ready
is_writable_item (key, objects.Lease l) = is_writable_lease l
is_writable_item (key, objects.Pod p) = true
