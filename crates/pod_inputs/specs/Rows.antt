-- The second walk over a List, after that of its manifests: it goes over the Nodes and Pods in order and reads the fields that decide on
-- collection and placing. Sources: Kubernetes, "Pod Lifecycle" and "Taints and Tolerations", taints by condition; which fields: profile.
use Rattle.std.specs.Prelude.{ℕ, ◌+◌, ◌||◌, Bool, true, false, List, [], ◌∷◌, ◌++◌, codes, Option, Some, None, option_and_then}
use Rattle.std.specs.Prelude.{is_some, unwrap_or, Result, Ok, if◌then◌else◌}
use Rattle.std.specs.Str.{bytes_eq}
use Rattle.serde_json.specs.Data.{Data, Items, no_items, item}
use Rattle.serde_json.specs.Find.{get, as_str}
use Rattle.kube_base.specs.declared.numbers.Wall.{Wall}
use Rattle.kube_objects.specs.declared.key.Key.{Key}
use Rattle.kube_objects.specs.declared.key.Kind.{Kind}
use Rattle.kube_objects.specs.declared.node.Effect.TheVariants as effects
use Rattle.kube_objects.specs.declared.node.Node.{Node}
use Rattle.kube_objects.specs.declared.node.Ready.{Ready}
use Rattle.kube_objects.specs.declared.node.ReadyStatus.TheVariants as statuses
use Rattle.kube_objects.specs.declared.node.Taint.{Taint}
use Rattle.kube_objects.specs.declared.object.Object.{Object}
use Rattle.kube_objects.specs.declared.object.Object.TheVariants as objects
use Rattle.kube_objects.specs.declared.pod.Pod.{Pod}
use Rattle.manifest_json.specs.declared.codes.TheConstants.{WRONG_JSON}
use Rattle.manifest_json.specs.declared.fault.Refusal.{Refusal}
use Rattle.manifest_json.specs.declared.scale.Scale.TheVariants as scales
use Rattle.manifest_json.specs.Faults.{◌>>=◌}
use Rattle.manifest_json.specs.Fields.{Texts, field, field_in, parent_at, text_at, items_at, time_at, numbered}
use Rattle.manifest_json.specs.Walk.{whole_second, kind_from, is_text, list_walk, member_path}
use Rattle.pod_inputs.specs.declared.row.Rows.{Rows}
use Rattle.pod_inputs.specs.Fields.{flag_at}
use Rattle.pod_tools.specs.declared.rows.NodeRow.{NodeRow}
use Rattle.pod_tools.specs.declared.rows.PodRow.{PodRow}
use Rattle.pod_tools.specs.Readiness.{has_status}

-- ---- Pods

-- the phases of pods that have ended
abbrev pub is_terminated : List ℕ → Bool
is_terminated phase = bytes_eq phase (codes "Succeeded") || bytes_eq phase (codes "Failed")

-- when a pod was created, in whole seconds: at the beginning of 1970 where that is missing
abbrev pub created_at : Option Wall → Wall
created_at at = unwrap_or (whole_second at) (record { 0 = 0 })

unfoldable pub pod_row_at : List ℕ → Key → Pod → Data → Result PodRow Refusal
pod_row_at path key pod d = do
  metadata ← parent_at (path ++ codes "/metadata") (field (codes "metadata") d)
  created ← time_at (path ++ codes "/metadata/creationTimestamp") (field_in (codes "creationTimestamp") metadata)
  deleted ← time_at (path ++ codes "/metadata/deletionTimestamp") (field_in (codes "deletionTimestamp") metadata)
  status ← parent_at (path ++ codes "/status") (field (codes "status") d)
  phase ← text_at WRONG_JSON (path ++ codes "/status/phase") (field_in (codes "phase") status)
  Ok (record { key = key; pod = pod; terminated = is_terminated phase; created = created_at created; terminating = is_some deleted })

-- ---- Nodes

-- the first condition of this type has the status True
abbrev pub condition_holds : List ℕ → Items → Bool
condition_holds kind no_items = false
condition_holds kind (item d rest) =
    if is_text kind (option_and_then as_str (get (codes "type") d))
    then is_text (codes "True") (option_and_then as_str (get (codes "status") d))
    else condition_holds kind rest

abbrev pub derived_taint : ℕ → Taint
derived_taint key = record { key = key; value = 0; effect = effects.NoSchedule; added = None }

-- one more taint, where its cause holds
unfoldable pub mark_at : Texts → List Taint → Bool → List ℕ → Result (List Taint × Texts) Refusal
mark_at names taints false text = Ok (taints, names)
mark_at names taints true text = do
  key ← numbered names text
  Ok (taints ++ derived_taint key.0 ∷ [], key.1)

-- the NoSchedule taints by Ready
unfoldable pub ready_marks_at : Texts → Option Ready → Result (List Taint × Texts) Refusal
ready_marks_at names ready = do
  one ← mark_at names [] (has_status ready statuses.False) (codes "node.kubernetes.io/not-ready")
  mark_at one.1 one.0 (has_status ready statuses.Unknown) (codes "node.kubernetes.io/unreachable")

-- those by the other conditions
unfoldable pub pressure_marks_at : Texts → List Taint → Items → Result (List Taint × Texts) Refusal
pressure_marks_at names taints conditions = do
  one ← mark_at names taints (condition_holds (codes "MemoryPressure") conditions) (codes "node.kubernetes.io/memory-pressure")
  two ← mark_at one.1 one.0 (condition_holds (codes "DiskPressure") conditions) (codes "node.kubernetes.io/disk-pressure")
  three ← mark_at two.1 two.0 (condition_holds (codes "PIDPressure") conditions) (codes "node.kubernetes.io/pid-pressure")
  mark_at three.1 three.0 (condition_holds (codes "NetworkUnavailable") conditions) (codes "node.kubernetes.io/network-unavailable")

-- the taints that follow from a Node's conditions and from `spec.unschedulable`
unfoldable pub derived_at : Texts → Option Ready → Items → Bool → Result (List Taint × Texts) Refusal
derived_at names ready conditions unschedulable = do
  one ← ready_marks_at names ready
  two ← pressure_marks_at one.1 one.0 conditions
  mark_at two.1 two.0 unschedulable (codes "node.kubernetes.io/unschedulable")

unfoldable pub node_row_at : Texts → List ℕ → ℕ → Node → Data → Result (NodeRow × Texts) Refusal
node_row_at names path name node d = do
  spec ← parent_at (path ++ codes "/spec") (field (codes "spec") d)
  unschedulable ← flag_at (path ++ codes "/spec/unschedulable") (field_in (codes "unschedulable") spec)
  status ← parent_at (path ++ codes "/status") (field (codes "status") d)
  conditions ← items_at (path ++ codes "/status/conditions") (field_in (codes "conditions") status)
  derived ← derived_at names node.ready conditions unschedulable
  Ok (record { name = name; node = node; derived = derived.0 }, derived.1)

-- ---- the List

abbrev pub no_rows : Rows
no_rows = record { nodes = []; pods = [] }

abbrev pub with_node : Rows → NodeRow → Rows
with_node rows row = record { nodes = rows.nodes ++ row ∷ []; pods = rows.pods }

abbrev pub with_pod : Rows → PodRow → Rows
with_pod rows row = record { nodes = rows.nodes; pods = rows.pods ++ row ∷ [] }

-- the rows with that of an object, if it is a Node or a Pod
unfoldable pub row_at : Texts → List ℕ → Rows → Key × Object → Data → Result (Rows × Texts) Refusal
row_at names path rows (key, objects.Node node) d = do
  row ← node_row_at names path key.name node d
  Ok (with_node rows row.0, row.1)
row_at names path rows (key, objects.Lease lease) d = Ok (rows, names)
row_at names path rows (key, objects.Pod pod) d = do
  row ← pod_row_at path key pod d
  Ok (with_pod rows row, names)

-- an item's kind, if it is one that is read
abbrev pub kind_by : Option (List ℕ) → Option (List ℕ) → Option Kind
kind_by None kind = None
kind_by (Some version) None = None
kind_by (Some version) (Some kind) = kind_from version kind

-- the item is of a kind that is read
abbrev pub is_read : Data → Bool
is_read d = is_some (kind_by (option_and_then as_str (get (codes "apiVersion") d)) (option_and_then as_str (get (codes "kind") d)))

-- the rows after an item of a kind that is read, and the objects of the later items: the first object is the item's
unfoldable pub next_row_at : Texts → List ℕ → Rows → List (Key × Object) → Data → Result ((Rows × List (Key × Object)) × Texts) Refusal
next_row_at names path rows [] d = Ok ((rows, []), names)
next_row_at names path rows (found ∷ later) d = do
  next ← row_at names path rows found d
  Ok ((next.0, later), next.1)

-- the same after any item
unfoldable pub item_row_at : Texts → List ℕ → Rows → List (Key × Object) → Data → Result ((Rows × List (Key × Object)) × Texts) Refusal
item_row_at names path rows found d = if is_read d then next_row_at names path rows found d else Ok ((rows, found), names)

-- the rows after the items from a place on, whose objects are these
unfoldable pub rows_from : Texts → ℕ → Rows → List (Key × Object) → Items → Result (Rows × Texts) Refusal
rows_from names place rows found no_items = Ok (rows, names)
rows_from names place rows found (item d rest) = do
  next ← item_row_at names (member_path [] (codes "/objects/items/") place) rows found d
  rows_from next.1 (place + 1) next.0.0 next.0.1 rest

-- the Nodes and Pods of the value of `objects`. No holder of a Lease is an identity.
unfoldable pub rows_in : Texts → Data → Result (Rows × Texts) Refusal
rows_in names d = do
  found ← list_walk scales.Usual names [] (codes "/objects") d
  items ← items_at (codes "/objects/items") (field (codes "items") d)
  rows_from found.1 0 no_rows found.0.0 items
