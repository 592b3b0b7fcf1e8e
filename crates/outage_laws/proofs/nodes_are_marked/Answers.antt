use Rattle.outage_laws.proofs.Silent as silent
use Rattle.outage_laws.proofs.nodes_are_marked.Goals as goal

pub returns : goal.returns
returns c = silent.nodes_are_marked
