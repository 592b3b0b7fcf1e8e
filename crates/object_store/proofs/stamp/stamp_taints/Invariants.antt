use Rattle.std.proofs.Common.{◌≡◌, take}
use Rattle.kube_objects.specs.Stamps.{stamp_all}
use Rattle.object_store.proofs.stamp.stamp_taints.Given as goal

abbrev pub invariant-loop-taint : goal.invariant-loop-taint
invariant-loop-taint l = l.stamped ≡ stamp_all l.at.0 (take l.taint-index l.taint-items)
