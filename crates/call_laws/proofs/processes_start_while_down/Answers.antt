use Rattle.call_laws.proofs.Starting as starting
use Rattle.call_laws.proofs.processes_start_while_down.Goals as goal

pub returns : goal.returns
returns c = starting.starts_are_down
