-- Two tables: the state and rate of a zone by its counts, and when a pod is due by its tolerations.
use Rattle.std.specs.Prelude.{◌≡◌, ℕ, Bool, pos, negsuc, true, false, List, [], ◌∷◌, map, Option, Some, None}
use Rattle.kube_objects.specs.declared.node.Effect.{Effect}
use Rattle.kube_objects.specs.declared.node.Effect.TheVariants as effect
use Rattle.kube_objects.specs.declared.node.Node.{Node}
use Rattle.kube_objects.specs.declared.node.ZoneState.{ZoneState}
use Rattle.kube_objects.specs.declared.node.ZoneState.TheVariants.{Normal, Partial, Full}
use Rattle.kube_objects.specs.declared.pod.Due.{Due}
use Rattle.kube_objects.specs.declared.pod.Due.TheVariants.{Never, At}
use Rattle.kube_objects.specs.declared.pod.Operator.TheVariants.{Exists}
use Rattle.kube_objects.specs.declared.pod.Toleration.{Toleration}
use Rattle.kube_objects.specs.declared.settings.RatePolicy.{RatePolicy}
use Rattle.kube_objects.specs.declared.settings.RatePolicy.TheVariants.{Standard, Gentle, Halt}
use Rattle.kube_objects.specs.Tainting.{unreachable}
use Rattle.kube_objects.specs.Tolerations.{due}
use Rattle.kube_objects.specs.Zones.{state_of, rate_of}
use Rattle.history_examples.specs.Clusters.{n1, r1, zone_a, second}

-- ready nodes and others, at 55 percent
abbrev pub state_at : ℕ → ℕ → ZoneState
state_at ready other = state_of ready other 55

abbrev pub StatesByCounts : Type 0
StatesByCounts = state_at 1 2 ∷ state_at 9 11 ∷ state_at 9 10 ∷ state_at 22 29 ∷ state_at 0 1 ∷ state_at 0 0 ∷ [] ≡
    Normal ∷ Partial ∷ Normal ∷ Partial ∷ Full ∷ Normal ∷ []

-- with primary rate 100, secondary rate 10, and zones of more than 50 nodes as large ones
abbrev pub rate_at : RatePolicy → Bool → ZoneState → ℕ → ℕ
rate_at policy mode state size = rate_of mode state policy 100 10 50 size

abbrev pub RatesByPolicy : Type 0
RatesByPolicy =
    rate_at Standard false Partial 20
    ∷ rate_at Standard false Partial 50
    ∷ rate_at Standard false Partial 51
    ∷ rate_at Standard false Full 20
    ∷ rate_at Standard true Normal 20
    ∷ rate_at Gentle false Partial 20
    ∷ rate_at Gentle false Full 20
    ∷ rate_at Halt false Partial 51
    ∷ rate_at Halt false Full 20
    ∷ rate_at Halt false Normal 20
    ∷ [] ≡ 0 ∷ 0 ∷ 10 ∷ 100 ∷ 0 ∷ 10 ∷ 10 ∷ 0 ∷ 0 ∷ 100 ∷ []

abbrev pub unreachable_node : Effect → Node
unreachable_node by = record {
  region = r1;
  zone = zone_a;
  taints = record { key = unreachable; value = 0; effect = by; added = Some (second 0) } ∷ [];
  ready = None;
}

abbrev pub for_unreachable : Option Effect → Toleration
for_unreachable by = record { key = unreachable; operator = Exists; value = 0; effect = by; seconds = None }

abbrev pub within : ℕ → Toleration
within seconds = record (for_unreachable (Some effect.NoExecute)) { seconds = Some (pos seconds) }

-- five seconds too little
abbrev pub within_minus_five : Toleration
within_minus_five = record (for_unreachable (Some effect.NoExecute)) { seconds = Some (negsuc 4) }

-- an empty key, without seconds
abbrev pub everything : Toleration
everything = record { key = 0; operator = Exists; value = 0; effect = None; seconds = None }

abbrev pub due_by_tolerations : Effect → List Toleration → Due
due_by_tolerations by tolerations = due (record { node = n1; tolerations = tolerations }) (unreachable_node by)

abbrev pub DueByTolerations : Type 0
DueByTolerations = map (due_by_tolerations effect.NoExecute)
    ((within 300 ∷ everything ∷ [])
    ∷ (everything ∷ within 300 ∷ [])
    ∷ (within_minus_five ∷ [])
    ∷ (within 9223372036854775807 ∷ [])
    ∷ []
    ∷ []) ≡ At 1704067500000000 ∷ Never ∷ At 1704067200000000 ∷ At 9223372038558843007000000 ∷ At 1704067200000000 ∷ []

abbrev pub NoScheduleIsNeverDue : Type 0
NoScheduleIsNeverDue = due_by_tolerations effect.NoSchedule [] ≡ Never
