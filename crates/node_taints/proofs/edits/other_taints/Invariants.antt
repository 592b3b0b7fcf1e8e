use Rattle.std.proofs.Common.{◌≡◌, not, filter, take}
use Rattle.kube_objects.specs.Tainting.{is_condition}
use Rattle.node_taints.proofs.edits.other_taints.Given as goal

abbrev pub invariant-loop-taint : goal.invariant-loop-taint
invariant-loop-taint l = l.taints ≡ filter (λ taint. not (is_condition taint)) (take l.taint-index l.node.taints)
