use Rattle.manifest_json.specs.Written.{toleration_of}
use Rattle.manifest_json.proofs.WriteLoops.{SoFar}
use Rattle.manifest_json.proofs.write.pod.write_tolerations.Given as goal

abbrev pub invariant-loop-toleration : goal.invariant-loop-toleration
invariant-loop-toleration l = SoFar (toleration_of l.names) l.tolerations l.toleration-index l.values.items
