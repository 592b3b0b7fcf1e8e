-- Which pods are collected, and why. Source: Kubernetes, "Pod Lifecycle", garbage collection of Pods; "Node Shutdowns", non-graceful
-- node shutdown. Which phases are terminated, and the order of the terminated pods, are the profile's.
use Rattle.std.specs.Prelude.{◌≡◌, ℕ, ◌+◌, ◌-◌, ◌==◌, ◌&&◌, not, nat_le, Bool, true, false, List, [], ◌∷◌, ◌++◌, length, count_by, find}
use Rattle.std.specs.Prelude.{codes, Option, Some, None, is_none, if◌then◌else◌}
use Rattle.std.specs.List.{list_any}
use Rattle.std.specs.Ordering.{nat_cmp, ordering_then, is_lt}
use Rattle.kube_base.specs.Names.{number_of}
use Rattle.kube_objects.specs.declared.node.ReadyStatus.TheVariants as statuses
use Rattle.kube_objects.specs.declared.node.Taint.{Taint}
use Rattle.pod_tools.specs.declared.collecting.Cause.{Cause}
use Rattle.pod_tools.specs.declared.collecting.Cause.TheVariants as causes
use Rattle.pod_tools.specs.declared.collecting.Pick.{Pick}
use Rattle.pod_tools.specs.declared.rows.CollectInput.{CollectInput}
use Rattle.pod_tools.specs.declared.rows.MissingRow.{MissingRow}
use Rattle.pod_tools.specs.declared.rows.NodeRow.{NodeRow}
use Rattle.pod_tools.specs.declared.rows.PodRow.{PodRow}
use Rattle.pod_tools.specs.Readiness.{has_status}

-- ---- terminated pods

-- when a pod was created, and its place
abbrev pub Age : Type 0
Age = ℕ × ℕ

-- the first was created before the second, or at the same time and stands before it
abbrev pub comes_before : Age → Age → Bool
comes_before a b = is_lt (ordering_then (nat_cmp a.0 b.0) (nat_cmp a.1 b.1))

-- the age of the pod at a place, if it is terminated
abbrev pub age_of : ℕ → PodRow → List Age
age_of place row = if row.terminated then (row.created.0, place) ∷ [] else []

-- the ages of the terminated pods from a place on
abbrev pub ages_from : ℕ → List PodRow → List Age
ages_from place [] = []
ages_from place (row ∷ rest) = age_of place row ++ ages_from (place + 1) rest

-- where an age stands in the order of these, counted from 1: how many of them do not come after it
abbrev pub rank : Age → List Age → ℕ
rank age ages = count_by (λ other. not (comes_before age other)) ages

-- how many terminated pods are over the threshold, where 0 sets none
abbrev pub excess : ℕ → ℕ → ℕ
excess threshold count = if threshold == 0 then 0 else count - threshold

-- an age is one of the oldest of the terminated pods, which are over the threshold
abbrev pub is_old : ℕ → List PodRow → Age → Bool
is_old threshold pods age = nat_le (rank age (ages_from 0 pods)) (excess threshold (length (ages_from 0 pods)))

-- the pod is a terminated one that is over the threshold
abbrev pub is_over : ℕ → List PodRow → ℕ → PodRow → Bool
is_over threshold pods place row = row.terminated && is_old threshold pods (row.created.0, place)

-- an age comes before another one, or there is none
abbrev pub comes_before_any : Age → Option Age → Bool
comes_before_any age None = true
comes_before_any age (Some other) = comes_before age other

-- the ages before this one are those over the threshold; where there is none, all are
abbrev pub IsFirstToKeep : ℕ → List PodRow → Option Age → Type 0
IsFirstToKeep threshold pods kept = (age : Age) → comes_before_any age kept ≡ is_old threshold pods age

-- ---- pods of nodes

-- the node of this name
abbrev pub node_of : List NodeRow → ℕ → Option NodeRow
node_of nodes name = find (λ row. row.name == name) nodes

abbrev pub is_number : Option ℕ → ℕ → Bool
is_number None key = false
is_number (Some number) key = number == key

-- the number of the key of the taint that takes a node out of service
abbrev pub out_of_service : List (List ℕ) → Option ℕ
out_of_service names = number_of names (codes "node.kubernetes.io/out-of-service")

-- a node that isn't Ready and is out of service
abbrev pub is_out : Option ℕ → Option NodeRow → Bool
is_out service None = false
is_out service (Some row) =
    not (has_status row.node.ready statuses.True) && list_any (λ (t : Taint). is_number service t.key) row.node.taints

-- the pod names a node
abbrev pub is_scheduled : PodRow → Bool
is_scheduled row = not (row.pod.node == 0)

-- the pod is terminating on a node that is out of service
abbrev pub is_stranded : CollectInput → PodRow → Bool
is_stranded input row = row.terminating && is_scheduled row && is_out (out_of_service input.names) (node_of input.nodes row.pod.node)

-- the node has been missing for 40 seconds
abbrev pub is_gone : ℕ → List MissingRow → ℕ → Bool
is_gone now missing node = list_any (λ (m : MissingRow). m.node == node && nat_le (m.since.0 + 40_000_000) now) missing

-- the pod names a node that isn't there and has been missing long enough
abbrev pub is_orphan : CollectInput → PodRow → Bool
is_orphan input row =
    is_scheduled row && is_gone input.now.0 input.missing row.pod.node && is_none (node_of input.nodes row.pod.node)

-- the pod is terminating and names no node
abbrev pub is_unplaced : PodRow → Bool
is_unplaced row = row.terminating && not (is_scheduled row)

-- ---- causes

-- the first of these that holds
abbrev pub first_cause : Bool → Bool → Bool → Bool → Option Cause
first_cause over stranded orphan unplaced =
    if over then Some causes.Terminated
    else (if stranded then Some causes.OutOfService
    else (if orphan then Some causes.Orphaned
    else (if unplaced then Some causes.Unscheduled else None)))

-- why the pod at a place is collected, if it is
abbrev pub cause_of : CollectInput → ℕ → PodRow → Option Cause
cause_of input place row =
    first_cause (is_over input.threshold input.pods place row) (is_stranded input row) (is_orphan input row) (is_unplaced row)

abbrev pub picked : ℕ → Option Cause → List Pick
picked place None = []
picked place (Some cause) = record { pod = place; cause = cause } ∷ []

-- the pods from a place on that are collected
abbrev pub collected_from : CollectInput → ℕ → List PodRow → List Pick
collected_from input place [] = []
collected_from input place (row ∷ rest) = picked place (cause_of input place row) ++ collected_from input (place + 1) rest

-- the pods that are collected, each once with its cause, in input order
abbrev pub collected : CollectInput → List Pick
collected input = collected_from input 0 input.pods
