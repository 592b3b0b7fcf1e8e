-- One try to write a node with a queued taint.
use Rattle.std.proofs.Common.{ℕ, Option, refl}
use Rattle.kube_base.specs.declared.numbers.Version.{Version}
use Rattle.kube_objects.specs.declared.call.Answer.{Answer}
use Rattle.kube_objects.specs.declared.node.Node.{Node}
use Rattle.kube_objects.specs.Entry.{Head, Place}
use Rattle.tick_laws.proofs.Frames.{head_is}
use Rattle.term_state.specs.declared.writes.NodeWrite.TheVariants.{Taint}
use Rattle.term_state.specs.Writes.{IsWrite}

-- its entry is such a write
pub head_write : (place : Place) (name wanted : ℕ) (given : Version) (written : Node) (a : Option Answer) → IsWrite (Taint wanted) name written a (Head place name wanted given written a)
head_write place name wanted given written a = record { try = (head_is place name wanted given written a).try; stale = refl; act = refl }
