use Rattle.std.proofs.Common.{subst}
use Rattle.world_process.specs.Processes.{ProcessStands}
use Rattle.world_process.proofs.process.Process.start_if_down.Goals as goal

pub returns-in-Controller-clause-stands : goal.returns-in-Controller-clause-stands
returns-in-Controller-clause-stands c doc n k id h s at plain few = c.start_if_down.ensures.stands doc n k id h (subst (ProcessStands doc id.0 h) c.in-Controller.is s) at plain few

pub returns-in-Kubelet-clause-stands : goal.returns-in-Kubelet-clause-stands
returns-in-Kubelet-clause-stands c doc n k id h s at plain few = c.start_if_down-in-Kubelet.ensures.stands doc n k id h (subst (ProcessStands doc id.0 h) c.in-Kubelet.is s) at plain few
