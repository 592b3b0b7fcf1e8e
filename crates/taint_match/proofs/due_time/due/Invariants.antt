use Rattle.std.proofs.Common.{◌≡◌, drop, map}
use Rattle.kube_objects.specs.Tolerations.{earlier, least_due, taint_due}
use Rattle.taint_match.proofs.due_time.due.Given as goal

abbrev pub invariant-loop-taint : goal.invariant-loop-taint
invariant-loop-taint l = earlier l.least (least_due (map (taint_due l.pod.tolerations) (drop l.taint-index l.taint-items))) ≡ least_due (map (taint_due l.pod.tolerations) l.node.taints)
