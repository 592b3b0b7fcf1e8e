use Rattle.std.proofs.Common.{subst}
use Rattle.world_process.specs.Processes.{ProcessStands}
use Rattle.world_process.proofs.process.Process.crash.Goals as goal

pub returns-in-Controller-clause-stands : goal.returns-in-Controller-clause-stands
returns-in-Controller-clause-stands c doc k id h s = c.crash.ensures.stands doc k id h (subst (ProcessStands doc id.0 h) c.in-Controller.is s)

pub returns-in-Kubelet-clause-stands : goal.returns-in-Kubelet-clause-stands
returns-in-Kubelet-clause-stands c doc k id h s = c.crash-in-Kubelet.ensures.stands doc k id h (subst (ProcessStands doc id.0 h) c.in-Kubelet.is s)
