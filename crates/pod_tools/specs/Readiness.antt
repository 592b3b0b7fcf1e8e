-- The status of a node's Ready.
use Rattle.std.specs.Prelude.{Bool, false, Option, Some, None}
use Rattle.kube_objects.specs.declared.node.Ready.{Ready}
use Rattle.kube_objects.specs.declared.node.ReadyStatus.{ReadyStatus}
use Rattle.kube_objects.specs.Answers.{same_status}

-- Ready is there with this status
abbrev pub has_status : Option Ready → ReadyStatus → Bool
has_status None status = false
has_status (Some ready) status = same_status ready.status status
