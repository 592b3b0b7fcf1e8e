-- An object as it is put: a NoExecute taint without a time gets the store's time of day in whole seconds.
-- Source: Kubernetes API types, `timeAdded`; profile.
use Rattle.std.specs.Prelude.{ℕ, ◌&&◌, not, Bool, true, false, cond, List, [], ◌∷◌, Some}
use Rattle.kube_objects.specs.declared.node.Effect.{Effect}
use Rattle.kube_objects.specs.declared.node.Effect.TheVariants.{NoExecute}
use Rattle.kube_objects.specs.declared.node.Taint.{Taint}
use Rattle.kube_objects.specs.declared.object.Object.{Object}
use Rattle.kube_objects.specs.declared.object.Object.TheVariants as object
use Rattle.kube_objects.specs.Newest.{has}

abbrev pub is_no_execute : Effect → Bool
is_no_execute NoExecute = true
is_no_execute _ = false

abbrev pub stamp_taint : ℕ → Taint → Taint
stamp_taint at taint = cond (is_no_execute taint.effect && not (has taint.added)) (record taint { added = Some (record { 0 = at }) }) taint

abbrev pub stamp_all : ℕ → List Taint → List Taint
stamp_all at [] = []
stamp_all at (taint ∷ taints) = stamp_taint at taint ∷ stamp_all at taints

-- an object as it is put at a whole second
abbrev pub stamped : ℕ → Object → Object
stamped at (object.Node node) = object.Node (record node { taints = stamp_all at node.taints })
stamped at (object.Lease lease) = object.Lease lease
stamped at (object.Pod pod) = object.Pod pod
