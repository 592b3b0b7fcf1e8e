use Rattle.std.proofs.Common.{◌≡◌, not, filter, take}
use Rattle.kube_objects.specs.Tainting.{is_opposite}
use Rattle.node_taints.proofs.edits.without_opposite.Given as goal

abbrev pub invariant-loop-taint : goal.invariant-loop-taint
invariant-loop-taint l = l.taints ≡ filter (λ other. not (is_opposite l.wanted other)) (take l.taint-index l.node.taints)
