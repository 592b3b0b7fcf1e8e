use Rattle.std.proofs.Common.{◌≡◌, drop}
use Rattle.kube_objects.specs.Sightings.{bears, shorter}
use Rattle.taint_match.specs.Bearing.{IsBounded}
use Rattle.taint_match.proofs.bearing.bears.Given as goal

abbrev pub invariant-loop-taint : goal.invariant-loop-taint
invariant-loop-taint l =
    (shorter l.shortest (bears l.pod.tolerations (drop l.taint-index l.taint-items)) ≡ bears l.pod.tolerations l.node.taints) × IsBounded l.shortest
