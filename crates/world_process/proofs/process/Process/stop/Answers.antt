use Rattle.std.proofs.Common.{subst}
use Rattle.world_process.specs.Processes.{ProcessStands}
use Rattle.world_process.proofs.process.Process.stop.Goals as goal

pub returns-in-Controller-clause-stands : goal.returns-in-Controller-clause-stands
returns-in-Controller-clause-stands c doc k id h s sort at few = c.stop.ensures.stands doc k id h (subst (ProcessStands doc id.0 h) c.in-Controller.is s) at few
