-- On which nodes a pod may run. Sources: Kubernetes, "Taints and Tolerations"; the admission plugin DefaultTolerationSeconds.
use Rattle.std.specs.Prelude.{ℕ, ◌+◌, ◌≤◌, ◌==◌, ◌&&◌, ◌||◌, not, Bool, true, false, List, [], ◌∷◌, ◌++◌, length}
use Rattle.std.specs.Prelude.{Option, Some, None, pos, if◌then◌else◌}
use Rattle.std.specs.List.{All, list_any, list_all}
use Rattle.kube_base.specs.declared.fixed.TheConstants.{NOT_READY, UNREACHABLE}
use Rattle.kube_objects.specs.declared.node.Effect.{Effect}
use Rattle.kube_objects.specs.declared.node.Effect.TheVariants as effects
use Rattle.kube_objects.specs.declared.node.Taint.{Taint}
use Rattle.kube_objects.specs.declared.pod.Operator.TheVariants as operators
use Rattle.kube_objects.specs.declared.pod.Toleration.{Toleration}
use Rattle.kube_objects.specs.Tolerations.{tolerates}
use Rattle.pod_tools.specs.declared.placing.Placement.{Placement}
use Rattle.pod_tools.specs.declared.rows.NodeRow.{NodeRow}
use Rattle.pod_tools.specs.declared.rows.PodRow.{PodRow}

-- ---- default tolerations

-- the effect is missing, which means every effect, or NoExecute
abbrev pub is_for_no_execute : Option Effect → Bool
is_for_no_execute None = true
is_for_no_execute (Some effects.NoSchedule) = false
is_for_no_execute (Some effects.PreferNoSchedule) = false
is_for_no_execute (Some effects.NoExecute) = true

-- the pod has something to say on NoExecute taints of this key: the effect is missing or NoExecute, and the key is empty or this one
abbrev pub speaks_of : ℕ → Toleration → Bool
speaks_of key t = is_for_no_execute t.effect && (t.key == 0 || t.key == key)

-- five minutes
abbrev pub default_of : ℕ → Toleration
default_of key = record { key = key; operator = operators.Exists; value = 0; effect = Some effects.NoExecute; seconds = Some (pos 300) }

-- the default for a key, where none of these speaks of it
abbrev pub default_for : ℕ → List Toleration → List Toleration
default_for key tolerations = if list_any (speaks_of key) tolerations then [] else default_of key ∷ []

-- the tolerations with the defaults for `node.kubernetes.io/not-ready` and `node.kubernetes.io/unreachable`
abbrev pub defaulted : List Toleration → List Toleration
defaulted tolerations = (tolerations ++ default_for NOT_READY tolerations) ++ default_for UNREACHABLE tolerations

-- ---- feasible nodes

-- a taint that keeps pods away: NoSchedule or NoExecute
abbrev pub is_barrier : Effect → Bool
is_barrier effects.NoSchedule = true
is_barrier effects.PreferNoSchedule = false
is_barrier effects.NoExecute = true

-- a taint keeps no pod with these tolerations away
abbrev pub is_passed : List Toleration → Taint → Bool
is_passed tolerations t = not (is_barrier t.effect) || list_any (λ toleration. tolerates toleration t) tolerations

-- every barrier among the node's taints and its derived ones is tolerated
abbrev pub is_feasible : List Toleration → NodeRow → Bool
is_feasible tolerations row = list_all (is_passed tolerations) row.node.taints && list_all (is_passed tolerations) row.derived

-- the place of a node, if it is feasible
abbrev pub place_of : List Toleration → ℕ → NodeRow → List ℕ
place_of tolerations place row = if is_feasible tolerations row then place ∷ [] else []

-- the places of the feasible nodes from a place on
abbrev pub feasible_from : List Toleration → ℕ → List NodeRow → List ℕ
feasible_from tolerations place [] = []
feasible_from tolerations place (row ∷ rest) = place_of tolerations place row ++ feasible_from tolerations (place + 1) rest

-- the answer for the pod at a place
abbrev pub placement : List NodeRow → ℕ → List Toleration → Placement
placement nodes place tolerations =
    record { pod = place; tolerations = length (defaulted tolerations); nodes = feasible_from (defaulted tolerations) 0 nodes }

-- the answer for the pod at a place, if it names no node
abbrev pub placement_for : List NodeRow → ℕ → PodRow → List Placement
placement_for nodes place row = if row.pod.node == 0 then placement nodes place row.pod.tolerations ∷ [] else []

-- the answers for the pods from a place on
abbrev pub placed_from : List NodeRow → ℕ → List PodRow → List Placement
placed_from nodes place [] = []
placed_from nodes place (row ∷ rest) = placement_for nodes place row ++ placed_from nodes (place + 1) rest

-- the answers in input order
abbrev pub placed : List NodeRow → List PodRow → List Placement
placed nodes pods = placed_from nodes 0 pods

-- ---- limits

abbrev pub HasFew : PodRow → Type 0
HasFew row = length row.pod.tolerations ≤ 100

-- the limits of a document
pub record AreFew (all_nodes : List NodeRow) (all_pods : List PodRow) : Type 0 where
  pub nodes : length all_nodes ≤ 1000
  pub pods : length all_pods ≤ 30000
  pub tolerations : All HasFew all_pods
