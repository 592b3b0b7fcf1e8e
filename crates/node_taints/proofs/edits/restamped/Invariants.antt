use Rattle.std.proofs.Common.{◌≡◌, map, take, if◌then◌else◌}
use Rattle.kube_objects.specs.Tainting.{is_wanted}
use Rattle.node_taints.proofs.edits.restamped.Given as goal

abbrev pub invariant-loop-other : goal.invariant-loop-other
invariant-loop-other l = l.taints ≡ map (λ other. if is_wanted l.taint.key other then l.taint else other) (take l.other-index l.other-items)
