-- Which toleration tolerates a taint, and when a pod is due to be evicted from a node.
-- Source for which toleration tolerates: Kubernetes, Taints and Tolerations. That the time counts from the taint's stored
-- `timeAdded` is the profile's.
use Rattle.std.specs.Prelude.{ℕ, ℤ, Bool, true, false, ◌==◌, ◌&&◌, ◌||◌, ◌+◌, ◌*◌, min, pos, negsuc}
use Rattle.std.specs.Prelude.{List, [], ◌∷◌, map, find, Option, Some, None}
use Rattle.kube_base.specs.declared.numbers.Wall.{Wall}
use Rattle.kube_objects.specs.declared.node.Effect.{Effect}
use Rattle.kube_objects.specs.declared.node.Effect.TheVariants.{NoSchedule, PreferNoSchedule, NoExecute}
use Rattle.kube_objects.specs.declared.node.Node.{Node}
use Rattle.kube_objects.specs.declared.node.Taint.{Taint}
use Rattle.kube_objects.specs.declared.pod.Due.{Due}
use Rattle.kube_objects.specs.declared.pod.Due.TheVariants.{Never, At}
use Rattle.kube_objects.specs.declared.pod.Operator.{Operator}
use Rattle.kube_objects.specs.declared.pod.Operator.TheVariants.{Exists, Equal}
use Rattle.kube_objects.specs.declared.pod.Pod.{Pod}
use Rattle.kube_objects.specs.declared.pod.Toleration.{Toleration}

abbrev pub effect_eq : Effect → Effect → Bool
effect_eq NoSchedule NoSchedule = true
effect_eq NoSchedule PreferNoSchedule = false
effect_eq NoSchedule NoExecute = false
effect_eq PreferNoSchedule NoSchedule = false
effect_eq PreferNoSchedule PreferNoSchedule = true
effect_eq PreferNoSchedule NoExecute = false
effect_eq NoExecute NoSchedule = false
effect_eq NoExecute PreferNoSchedule = false
effect_eq NoExecute NoExecute = true

-- no effect means every effect
abbrev pub effect_fits : Option Effect → Effect → Bool
effect_fits None effect = true
effect_fits (Some wanted) effect = effect_eq wanted effect

abbrev pub value_fits : Operator → ℕ → ℕ → Bool
value_fits Exists wanted value = true
value_fits Equal wanted value = wanted == value

-- the effect is missing or equal, the key is empty, which is number 0, or equal, and the operator is Exists, or Equal with equal values
abbrev pub tolerates : Toleration → Taint → Bool
tolerates toleration taint =
    effect_fits toleration.effect taint.effect
    && (toleration.key == 0 || toleration.key == taint.key)
    && value_fits toleration.operator toleration.value taint.value

-- the first of the pod's tolerations that tolerates the taint: it alone counts
abbrev pub first_tolerating : List Toleration → Taint → Option Toleration
first_tolerating tolerations taint = find (λ toleration. tolerates toleration taint) tolerations

-- so many seconds, at least 0, in microseconds
abbrev pub seconds_micros : ℤ → ℕ
seconds_micros (pos seconds) = seconds * 1000000
seconds_micros (negsuc seconds) = 0

abbrev pub due_within : Option ℤ → ℕ → Due
due_within None added = Never
due_within (Some seconds) added = At (added + seconds_micros seconds)

-- when a NoExecute taint that was added then is due, by the toleration that counts: with none at once, with one without seconds never
abbrev pub due_by : Option Toleration → ℕ → Due
due_by None added = At added
due_by (Some toleration) added = due_within toleration.seconds added

abbrev pub due_if : Effect → Option Wall → Option Toleration → Due
due_if NoSchedule added first = Never
due_if PreferNoSchedule added first = Never
due_if NoExecute None first = Never
due_if NoExecute (Some added) first = due_by first added.0

-- when a taint is due: one of another effect, and one without a time, counts for nothing
abbrev pub taint_due : List Toleration → Taint → Due
taint_due tolerations taint = due_if taint.effect taint.added (first_tolerating tolerations taint)

-- the earlier of two
abbrev pub earlier : Due → Due → Due
earlier Never other = other
earlier (At one) Never = At one
earlier (At one) (At other) = At (min one other)

-- the least of some, Never where there is none
abbrev pub least_due : List Due → Due
least_due [] = Never
least_due (one ∷ others) = earlier one (least_due others)

-- when a pod is due on a node: the least time at which one of the node's taints is due
abbrev pub due : Pod → Node → Due
due pod node = least_due (map (taint_due pod.tolerations) node.taints)
