use Rattle.std.proofs.Common.{subst}
use Rattle.world_process.specs.Processes.{ProcessStands}
use Rattle.world_process.proofs.process.Process.receive.Goals as goal

pub returns-in-Controller-clause-stands : goal.returns-in-Controller-clause-stands
returns-in-Controller-clause-stands c doc k p b h s at who number reply delay few = c.receive.ensures.stands doc k p b h (subst (ProcessStands doc p h) c.in-Controller.is s) at who number reply delay few

pub returns-in-Kubelet-clause-stands : goal.returns-in-Kubelet-clause-stands
returns-in-Kubelet-clause-stands c doc k p b h s at who number reply delay few = c.receive-in-Kubelet.ensures.stands doc k p b h (subst (ProcessStands doc p h) c.in-Kubelet.is s) at who number reply few
