-- The walk over a manifest: the typed object, with the names that are held then, or the first refusal.
use Rattle.std.specs.Prelude.{ℕ, ◌+◌, ◌-◌, ◌*◌, ◌/◌, ◌==◌, ◌&&◌, ◌||◌, not, nat_lt, nat_le, Bool, true, false, List, [], ◌∷◌}
use Rattle.std.specs.Prelude.{◌++◌, length, take, drop, reverse, position, count_by, codes, Option, Some, None, option_and_then}
use Rattle.std.specs.Prelude.{is_none, Result, Ok, if◌then◌else◌}
use Rattle.std.specs.Char.{is_ascii_digit}
use Rattle.std.specs.Fmt.{decimal}
use Rattle.std.specs.List.{list_any}
use Rattle.std.specs.Option.{option_map}
use Rattle.std.specs.Str.{bytes_eq}
use Rattle.serde_json.specs.Data.{Data, Items, no_items, item}
use Rattle.serde_json.specs.Find.{get, as_str}
use Rattle.kube_base.specs.Names.{number_of}
use Rattle.kube_base.specs.declared.numbers.Wall.{Wall}
use Rattle.kube_objects.specs.Keys.{key_eq, kind_rank}
use Rattle.kube_objects.specs.Stored.{node_key}
use Rattle.kube_objects.specs.declared.key.Key.{Key}
use Rattle.kube_objects.specs.declared.key.Kind.{Kind}
use Rattle.kube_objects.specs.declared.key.Kind.TheVariants as kinds
use Rattle.kube_objects.specs.declared.lease.Holder.{Holder}
use Rattle.kube_objects.specs.declared.lease.Holder.TheVariants as holders
use Rattle.kube_objects.specs.declared.lease.Lease.{Lease}
use Rattle.kube_objects.specs.declared.node.Effect.{Effect}
use Rattle.kube_objects.specs.declared.node.Effect.TheVariants as effects
use Rattle.kube_objects.specs.declared.node.Ready.{Ready}
use Rattle.kube_objects.specs.declared.node.ReadyStatus.{ReadyStatus}
use Rattle.kube_objects.specs.declared.node.ReadyStatus.TheVariants as statuses
use Rattle.kube_objects.specs.declared.node.Taint.{Taint}
use Rattle.kube_objects.specs.declared.object.Object.{Object}
use Rattle.kube_objects.specs.declared.object.Object.TheVariants as objects
use Rattle.kube_objects.specs.declared.pod.Operator.{Operator}
use Rattle.kube_objects.specs.declared.pod.Operator.TheVariants as operators
use Rattle.kube_objects.specs.declared.pod.Toleration.{Toleration}
use Rattle.manifest_json.specs.declared.codes.TheConstants.{BAD_EFFECT, BAD_KIND, BAD_LABEL, BAD_NAME, BAD_OPERATOR}
use Rattle.manifest_json.specs.declared.codes.TheConstants.{BAD_READY_STATUS, BAD_TAINT_KEY, BAD_TOLERATION, DUPLICATE}
use Rattle.manifest_json.specs.declared.codes.TheConstants.{DUPLICATE_TAINT, TOO_MANY, WRONG_JSON}
use Rattle.manifest_json.specs.declared.fault.Refusal.{Refusal}
use Rattle.manifest_json.specs.declared.scale.Scale.{Scale}
use Rattle.manifest_json.specs.declared.scale.Scale.TheVariants as scales
use Rattle.manifest_json.specs.Faults.{◌>>=◌, refuse}
use Rattle.manifest_json.specs.Fields.{Texts, is_label, field, field_in, or_refuse, object_at, parent_at, text_at, items_at}
use Rattle.manifest_json.specs.Fields.{time_at, count_at, signed_at, numbered, named}

-- ---- metadata

abbrev pub text_or_refuse : Option (List ℕ) → List ℕ → Result (List ℕ) Refusal
text_or_refuse text path = or_refuse text WRONG_JSON path

abbrev pub name_text_at : List ℕ → Option Data → Result (List ℕ) Refusal
name_text_at path None = refuse BAD_NAME path
name_text_at path (Some d) = or_refuse (as_str d) WRONG_JSON path

abbrev pub space_text_at : List ℕ → Option Data → Result (List ℕ) Refusal
space_text_at path None = Ok (codes "default")
space_text_at path (Some d) = or_refuse (as_str d) WRONG_JSON path

-- `metadata.name`
unfoldable pub name_at : Texts → List ℕ → Option Data → Result (ℕ × Texts) Refusal
name_at names path metadata = do
  text ← name_text_at (path ++ codes "/metadata/name") (field_in (codes "name") metadata)
  named names (path ++ codes "/metadata/name") text

-- `metadata.namespace`
unfoldable pub space_at : Texts → List ℕ → Option Data → Result (ℕ × Texts) Refusal
space_at names path metadata = do
  text ← space_text_at (path ++ codes "/metadata/namespace") (field_in (codes "namespace") metadata)
  named names (path ++ codes "/metadata/namespace") text

-- the key of a Lease or a Pod
unfoldable pub spaced_key_at : Texts → List ℕ → Kind → Option Data → Result (Key × Texts) Refusal
spaced_key_at names path kind metadata = do
  space ← space_at names path metadata
  name ← name_at space.1 path metadata
  Ok (record { kind = kind; space = space.0; name = name.0 }, name.1)

-- ---- Nodes

abbrev pub label_from : Texts → List ℕ → List ℕ → Result (ℕ × Texts) Refusal
label_from names path text = if is_label text then numbered names text else refuse BAD_LABEL path

-- a topology label
unfoldable pub label_at : Texts → List ℕ → List ℕ → List ℕ → Option Data → Result (ℕ × Texts) Refusal
label_at names path place key labels = do
  text ← text_at WRONG_JSON (path ++ place) (field_in key labels)
  label_from names (path ++ codes "/metadata/labels") text

abbrev pub effect_of : List ℕ → Option Effect
effect_of text =
    if bytes_eq text (codes "NoSchedule") then Some effects.NoSchedule
    else (if bytes_eq text (codes "PreferNoSchedule") then Some effects.PreferNoSchedule
    else (if bytes_eq text (codes "NoExecute") then Some effects.NoExecute else None))

abbrev pub effect_at : List ℕ → Option Data → Result Effect Refusal
effect_at path d = or_refuse (option_and_then effect_of (option_and_then as_str d)) BAD_EFFECT path

abbrev pub whole_second : Option Wall → Option Wall
whole_second at = option_map (λ (w : Wall). record { 0 = w.0 / 1_000_000 * 1_000_000 }) at

abbrev pub effect_rank : Effect → ℕ
effect_rank effects.NoSchedule = 0
effect_rank effects.PreferNoSchedule = 1
effect_rank effects.NoExecute = 2

-- two taints have the same key and effect
abbrev pub same_taint : Taint → Taint → Bool
same_taint a b = (a.key == b.key) && (effect_rank a.effect == effect_rank b.effect)

abbrev pub taint_text_at : List ℕ → Option Data → Result (List ℕ) Refusal
taint_text_at path None = refuse BAD_TAINT_KEY path
taint_text_at path (Some d) = or_refuse (as_str d) WRONG_JSON path

-- a taint's key, which isn't empty
unfoldable pub taint_key_at : Texts → List ℕ → Data → Result (ℕ × Texts) Refusal
taint_key_at names path d = do
  text ← taint_text_at (path ++ codes "/key") (field (codes "key") d)
  if length text == 0 then refuse BAD_TAINT_KEY (path ++ codes "/key") else numbered names text

unfoldable pub text_number_at : Texts → List ℕ → List ℕ → Option Data → Result (ℕ × Texts) Refusal
text_number_at names path key d = do
  text ← text_at WRONG_JSON (path ++ key) d
  numbered names text

abbrev pub unless_earlier : List Taint → List ℕ → Taint → Texts → Result (Taint × Texts) Refusal
unless_earlier earlier path taint names = if list_any (same_taint taint) earlier then refuse DUPLICATE_TAINT path else Ok (taint, names)

unfoldable pub taint_at : Texts → List ℕ → List Taint → Data → Result (Taint × Texts) Refusal
taint_at names path earlier value = do
  d ← object_at path value
  key ← taint_key_at names path d
  text ← text_number_at key.1 path (codes "/value") (field (codes "value") d)
  effect ← effect_at (path ++ codes "/effect") (field (codes "effect") d)
  added ← time_at (path ++ codes "/timeAdded") (field (codes "timeAdded") d)
  unless_earlier earlier path (record { key = key.0; value = text.0; effect = effect; added = whole_second added }) text.1

-- the path of an array's member
abbrev pub member_path : List ℕ → List ℕ → ℕ → List ℕ
member_path path key place = path ++ key ++ decimal place

-- the taints from a place on, behind earlier ones
unfoldable pub taints_from : Texts → List ℕ → ℕ → List Taint → Items → Result (List Taint × Texts) Refusal
taints_from names path place earlier no_items = Ok (earlier, names)
taints_from names path place earlier (item d rest) = do
  taint ← taint_at names (member_path path (codes "/spec/taints/") place) earlier d
  taints_from taint.1 path (place + 1) (earlier ++ taint.0 ∷ []) rest

abbrev pub items_len : Items → ℕ
items_len no_items = 0
items_len (item d rest) = 1 + items_len rest

-- at most a hundred members
abbrev pub hundred : List ℕ → Items → Result Items Refusal
hundred path items = if nat_lt 100 (items_len items) then refuse TOO_MANY path else Ok items

unfoldable pub taints_at : Texts → List ℕ → Option Data → Result (List Taint × Texts) Refusal
taints_at names path spec = do
  all ← items_at (path ++ codes "/spec/taints") (field_in (codes "taints") spec)
  few ← hundred (path ++ codes "/spec/taints") all
  taints_from names path 0 [] few

abbrev pub status_of : List ℕ → Option ReadyStatus
status_of text =
    if bytes_eq text (codes "True") then Some statuses.True
    else (if bytes_eq text (codes "False") then Some statuses.False
    else (if bytes_eq text (codes "Unknown") then Some statuses.Unknown else None))

abbrev pub status_at : List ℕ → Option Data → Result ReadyStatus Refusal
status_at path d = or_refuse (option_and_then status_of (option_and_then as_str d)) BAD_READY_STATUS path

-- a Ready condition
unfoldable pub ready_at : Texts → List ℕ → Data → Result (Ready × Texts) Refusal
ready_at names path d = do
  status ← status_at (path ++ codes "/status") (field (codes "status") d)
  reason ← text_number_at names path (codes "/reason") (field (codes "reason") d)
  heartbeat ← time_at (path ++ codes "/lastHeartbeatTime") (field (codes "lastHeartbeatTime") d)
  transition ← time_at (path ++ codes "/lastTransitionTime") (field (codes "lastTransitionTime") d)
  Ok (record { status = status; reason = reason.0; heartbeat = whole_second heartbeat; transition = whole_second transition }, reason.1)

abbrev pub is_text : List ℕ → Option (List ℕ) → Bool
is_text wanted None = false
is_text wanted (Some text) = bytes_eq text wanted

-- a condition that counts: the first of type Ready
abbrev pub is_ready_type : Data → Bool
is_ready_type d = is_text (codes "Ready") (option_and_then as_str (get (codes "type") d))

unfoldable pub condition_at : Texts → List ℕ → Option Ready → Data → Result (Option Ready × Texts) Refusal
condition_at names path None value = do
  d ← object_at path value
  if is_ready_type d then (do
    ready ← ready_at names path d
    Ok (Some ready.0, ready.1)) else Ok (None, names)
condition_at names path (Some first) value = do
  d ← object_at path value
  Ok (Some first, names)

unfoldable pub conditions_from : Texts → List ℕ → ℕ → Option Ready → Items → Result (Option Ready × Texts) Refusal
conditions_from names path place found no_items = Ok (found, names)
conditions_from names path place found (item d rest) = do
  next ← condition_at names (member_path path (codes "/status/conditions/") place) found d
  conditions_from next.1 path (place + 1) next.0 rest

unfoldable pub conditions_at : Texts → List ℕ → Option Data → Result (Option Ready × Texts) Refusal
conditions_at names path status = do
  all ← items_at (path ++ codes "/status/conditions") (field_in (codes "conditions") status)
  conditions_from names path 0 None all

-- region and zone
unfoldable pub labels_at : Texts → List ℕ → Option Data → Result (ℕ × ℕ × Texts) Refusal
labels_at names path metadata = do
  labels ← parent_at (path ++ codes "/metadata/labels") (field_in (codes "labels") metadata)
  region ← label_at names path (codes "/metadata/labels/topology.kubernetes.io/region") (codes "topology.kubernetes.io/region") labels
  zone ← label_at region.1 path (codes "/metadata/labels/topology.kubernetes.io/zone") (codes "topology.kubernetes.io/zone") labels
  Ok (region.0, zone.0, zone.1)

unfoldable pub node_at : Texts → List ℕ → Data → Result ((Key × Object) × Texts) Refusal
node_at names path d = do
  metadata ← parent_at (path ++ codes "/metadata") (field (codes "metadata") d)
  name ← name_at names path metadata
  labels ← labels_at name.1 path metadata
  spec ← parent_at (path ++ codes "/spec") (field (codes "spec") d)
  taints ← taints_at labels.2 path spec
  status ← parent_at (path ++ codes "/status") (field (codes "status") d)
  ready ← conditions_at taints.1 path status
  Ok ((node_key name.0, objects.Node (record { region = labels.0; zone = labels.1; taints = taints.0; ready = ready.0 })), ready.1)

-- ---- Leases

-- a decimal number up to 2^32 - 1, whose digits so far make n
abbrev pub number_onto : ℕ → List ℕ → Option ℕ
number_onto n [] = Some n
number_onto n (byte ∷ rest) =
    if is_ascii_digit byte && nat_le (10 * n + (byte - 48)) 4_294_967_295 then number_onto (10 * n + (byte - 48)) rest else None

-- an incarnation: a decimal number from 1 to 2^32 - 1 with no leading 0
abbrev pub incarnation_of : List ℕ → Option ℕ
incarnation_of [] = None
incarnation_of (byte ∷ rest) = if byte == 48 then None else number_onto 0 (byte ∷ rest)

-- a process by its name: its place among the known names
abbrev pub process_of : Texts → List ℕ → List ℕ → Option ℕ
process_of names known name = option_and_then (λ number. position (λ other. number == other) known) (number_of names name)

abbrev pub identity_from : Option ℕ → Option ℕ → Option Holder
identity_from None incarnation = None
identity_from (Some place) None = None
identity_from (Some place) (Some n) = Some (holders.Proc (record { 0 = place }) n)

-- an identity: a known name, an underscore, and an incarnation, where so many bytes stand behind the last underscore
abbrev pub identity_behind : Texts → List ℕ → List ℕ → Option ℕ → Option Holder
identity_behind names known text None = None
identity_behind names known text (Some n) =
    identity_from (process_of names known (take (length text - n - 1) text)) (incarnation_of (drop (length text - n) text))

abbrev pub identity_of : Texts → List ℕ → List ℕ → Option Holder
identity_of names known text = identity_behind names known text (position (λ byte. byte == 95) (reverse text))

abbrev pub holder_or : Texts → List ℕ → Option Holder → Result (Holder × Texts) Refusal
holder_or names text (Some holder) = Ok (holder, names)
holder_or names text None = do
  number ← numbered names text
  Ok (holders.Foreign number.0, number.1)

-- nobody, an identity, or another text
unfoldable pub holder_of : Texts → List ℕ → List ℕ → Result (Holder × Texts) Refusal
holder_of names known text = if length text == 0 then Ok (holders.Nobody, names) else holder_or names text (identity_of names known text)

unfoldable pub lease_spec_at : Texts → List ℕ → List ℕ → Option Data → Result (Lease × Texts) Refusal
lease_spec_at names known path spec = do
  text ← text_at WRONG_JSON (path ++ codes "/spec/holderIdentity") (field_in (codes "holderIdentity") spec)
  holder ← holder_of names known text
  duration ← count_at (path ++ codes "/spec/leaseDurationSeconds") (field_in (codes "leaseDurationSeconds") spec)
  acquired ← time_at (path ++ codes "/spec/acquireTime") (field_in (codes "acquireTime") spec)
  renewed ← time_at (path ++ codes "/spec/renewTime") (field_in (codes "renewTime") spec)
  transitions ← count_at (path ++ codes "/spec/leaseTransitions") (field_in (codes "leaseTransitions") spec)
  Ok (record { holder = holder.0; duration = duration; acquired = acquired; renewed = renewed; transitions = transitions }, holder.1)

unfoldable pub lease_at : Texts → List ℕ → List ℕ → Data → Result ((Key × Object) × Texts) Refusal
lease_at names known path d = do
  metadata ← parent_at (path ++ codes "/metadata") (field (codes "metadata") d)
  key ← spaced_key_at names path kinds.Lease metadata
  spec ← parent_at (path ++ codes "/spec") (field (codes "spec") d)
  lease ← lease_spec_at key.1 known path spec
  Ok ((key.0, objects.Lease lease.0), lease.1)

-- ---- Pods

abbrev pub operator_of : List ℕ → Option Operator
operator_of text =
    if length text == 0 || bytes_eq text (codes "Equal") then Some operators.Equal
    else (if bytes_eq text (codes "Exists") then Some operators.Exists else None)

unfoldable pub operator_at : List ℕ → Option Data → Result Operator Refusal
operator_at path d = do
  text ← text_at BAD_OPERATOR path d
  or_refuse (operator_of text) BAD_OPERATOR path

abbrev pub some_effect_of : List ℕ → List ℕ → Result (Option Effect) Refusal
some_effect_of path text = if length text == 0 then Ok None else (do
  effect ← or_refuse (effect_of text) BAD_EFFECT path
  Ok (Some effect))

unfoldable pub any_effect_at : List ℕ → Option Data → Result (Option Effect) Refusal
any_effect_at path d = do
  text ← text_at BAD_EFFECT path d
  some_effect_of path text

abbrev pub is_no_execute : Option Effect → Bool
is_no_execute None = false
is_no_execute (Some effects.NoSchedule) = false
is_no_execute (Some effects.PreferNoSchedule) = false
is_no_execute (Some effects.NoExecute) = true

-- Exists has no value, another operator has a key
abbrev pub fits_operator : Operator → ℕ → ℕ → Bool
fits_operator operators.Exists key value = value == 0
fits_operator operators.Equal key value = not (key == 0)

abbrev pub is_lawful : Toleration → Bool
is_lawful t = fits_operator t.operator t.key t.value && (is_none t.seconds || is_no_execute t.effect)

abbrev pub if_lawful : List ℕ → Toleration → Texts → Result (Toleration × Texts) Refusal
if_lawful path toleration names = if is_lawful toleration then Ok (toleration, names) else refuse BAD_TOLERATION path

unfoldable pub toleration_at : Texts → List ℕ → Data → Result (Toleration × Texts) Refusal
toleration_at names path value = do
  d ← object_at path value
  key ← text_number_at names path (codes "/key") (field (codes "key") d)
  text ← text_number_at key.1 path (codes "/value") (field (codes "value") d)
  operator ← operator_at (path ++ codes "/operator") (field (codes "operator") d)
  effect ← any_effect_at (path ++ codes "/effect") (field (codes "effect") d)
  seconds ← signed_at (path ++ codes "/tolerationSeconds") (field (codes "tolerationSeconds") d)
  if_lawful path (record { key = key.0; operator = operator; value = text.0; effect = effect; seconds = seconds }) text.1

unfoldable pub tolerations_from : Texts → List ℕ → List ℕ → ℕ → List Toleration → Items → Result (List Toleration × Texts) Refusal
tolerations_from names path key place earlier no_items = Ok (earlier, names)
tolerations_from names path key place earlier (item d rest) = do
  next ← toleration_at names (member_path path key place) d
  tolerations_from next.1 path key (place + 1) (earlier ++ next.0 ∷ []) rest

unfoldable pub tolerations_at : Texts → List ℕ → Option Data → Result (List Toleration × Texts) Refusal
tolerations_at names path spec = do
  all ← items_at (path ++ codes "/spec/tolerations") (field_in (codes "tolerations") spec)
  few ← hundred (path ++ codes "/spec/tolerations") all
  tolerations_from names path (codes "/spec/tolerations/") 0 [] few

-- the tolerations of pods that are alike, by the rules of a Pod's
unfoldable pub tolerations_under : Texts → List ℕ → Data → Result (List Toleration × Texts) Refusal
tolerations_under names path d = do
  all ← items_at (path ++ codes "/tolerations") (field (codes "tolerations") d)
  few ← hundred (path ++ codes "/tolerations") all
  tolerations_from names path (codes "/tolerations/") 0 [] few

abbrev pub node_name_from : Texts → List ℕ → List ℕ → Result (ℕ × Texts) Refusal
node_name_from names path text = if length text == 0 then numbered names text else named names path text

unfoldable pub node_name_at : Texts → List ℕ → Option Data → Result (ℕ × Texts) Refusal
node_name_at names path spec = do
  text ← text_at WRONG_JSON (path ++ codes "/spec/nodeName") (field_in (codes "nodeName") spec)
  node_name_from names (path ++ codes "/spec/nodeName") text

unfoldable pub pod_at : Texts → List ℕ → Data → Result ((Key × Object) × Texts) Refusal
pod_at names path d = do
  metadata ← parent_at (path ++ codes "/metadata") (field (codes "metadata") d)
  key ← spaced_key_at names path kinds.Pod metadata
  spec ← parent_at (path ++ codes "/spec") (field (codes "spec") d)
  node ← node_name_at key.1 path spec
  tolerations ← tolerations_at node.1 path spec
  Ok ((key.0, objects.Pod (record { node = node.0; tolerations = tolerations.0 })), tolerations.1)

-- ---- objects and lists

abbrev pub kind_from : List ℕ → List ℕ → Option Kind
kind_from version kind =
    if bytes_eq version (codes "v1") && bytes_eq kind (codes "Node") then Some kinds.Node
    else (if bytes_eq version (codes "v1") && bytes_eq kind (codes "Pod") then Some kinds.Pod
    else (if bytes_eq version (codes "coordination.k8s.io/v1") && bytes_eq kind (codes "Lease") then Some kinds.Lease else None))

-- which of the kinds that are read, if any
unfoldable pub kind_at : List ℕ → Data → Result (Option Kind) Refusal
kind_at path d = do
  version ← or_refuse (option_and_then as_str (get (codes "apiVersion") d)) BAD_KIND path
  kind ← or_refuse (option_and_then as_str (get (codes "kind") d)) BAD_KIND path
  Ok (kind_from version kind)

unfoldable pub of_kind_at : Texts → List ℕ → List ℕ → Data → Kind → Result ((Key × Object) × Texts) Refusal
of_kind_at names known path d kinds.Node = node_at names path d
of_kind_at names known path d kinds.Lease = lease_at names known path d
of_kind_at names known path d kinds.Pod = pod_at names path d

abbrev pub if_kind : Texts → List ℕ → List ℕ → Data → Option Kind → Result (Option (Key × Object) × Texts) Refusal
if_kind names known path d None = Ok (None, names)
if_kind names known path d (Some kind) = do
  found ← of_kind_at names known path d kind
  Ok (Some found.0, found.1)

-- a List's item: none where it has another kind
unfoldable pub item_at : Texts → List ℕ → List ℕ → Data → Result (Option (Key × Object) × Texts) Refusal
item_at names known path value = do
  d ← object_at path value
  kind ← kind_at path d
  if_kind names known path d kind

-- a single object, which has one of the kinds
unfoldable pub object_walk : Texts → List ℕ → List ℕ → Data → Result ((Key × Object) × Texts) Refusal
object_walk names known path value = do
  d ← object_at path value
  some ← kind_at path d
  kind ← or_refuse some BAD_KIND path
  of_kind_at names known path d kind

-- how many objects of a kind a list may have
abbrev pub kind_limit : Scale → Kind → ℕ
kind_limit scales.Usual kinds.Node = 1_000
kind_limit scales.Usual kinds.Lease = 2_000
kind_limit scales.Usual kinds.Pod = 30_000
kind_limit scales.Large kinds.Node = 15_000
kind_limit scales.Large kinds.Lease = 30_000
kind_limit scales.Large kinds.Pod = 450_000

abbrev pub kind_count : Kind → List (Key × Object) → ℕ
kind_count kind items = count_by (λ i. kind_rank kind == kind_rank i.0.kind) items

-- an item has this key
abbrev pub has_key : Key → List (Key × Object) → Bool
has_key key items = list_any (λ i. key_eq i.0 key) items

-- one more object, whose key is new and whose kind is not full
abbrev pub with_found : Scale → List ℕ → List (Key × Object) → (Key × Object) → Result (List (Key × Object)) Refusal
with_found scale path items found =
    if has_key found.0 items then refuse DUPLICATE path
    else (if nat_lt (kind_count found.0.kind items) (kind_limit scale found.0.kind) then Ok (items ++ found ∷ [])
    else refuse TOO_MANY path)

-- the objects after an item, and how many were skipped
abbrev pub with_item : Scale → List ℕ → List (Key × Object) → Option (Key × Object) → Result (List (Key × Object) × ℕ) Refusal
with_item scale path items None = Ok (items, 1)
with_item scale path items (Some found) = do
  more ← with_found scale path items found
  Ok (more, 0)

unfoldable pub list_step : Scale → Texts → List ℕ → List ℕ → List (Key × Object) → Data
    → Result ((List (Key × Object) × ℕ) × Texts) Refusal
list_step scale names known path items d = do
  found ← item_at names known path d
  next ← with_item scale path items found.0
  Ok (next, found.1)

unfoldable pub list_from : Scale → Texts → List ℕ → List ℕ → ℕ → List (Key × Object) → ℕ → Items
    → Result ((List (Key × Object) × ℕ) × Texts) Refusal
list_from scale names known path place items skipped no_items = Ok ((items, skipped), names)
list_from scale names known path place items skipped (item d rest) = do
  next ← list_step scale names known (member_path path (codes "/items/") place) items d
  list_from scale next.1 known path (place + 1) next.0.0 (skipped + next.0.1) rest

abbrev pub is_list : Data → Bool
is_list d =
    is_text (codes "v1") (option_and_then as_str (get (codes "apiVersion") d))
    && is_text (codes "List") (option_and_then as_str (get (codes "kind") d))

abbrev pub list_or_refuse : List ℕ → Data → Result Data Refusal
list_or_refuse path d = if is_list d then Ok d else refuse BAD_KIND path

-- a `v1` List: the items in order, how many were skipped, and the names that are held then
unfoldable pub list_walk : Scale → Texts → List ℕ → List ℕ → Data → Result ((List (Key × Object) × ℕ) × Texts) Refusal
list_walk scale names known path value = do
  object ← object_at path value
  d ← list_or_refuse path object
  all ← items_at (path ++ codes "/items") (field (codes "items") d)
  list_from scale names known path 0 [] 0 all
