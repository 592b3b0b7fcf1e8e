use Rattle.death_laws.proofs.Deaths as deaths
use Rattle.death_laws.proofs.dead_nodes_end.Goals as goal

pub returns-clause-marks : goal.returns-clause-marks
returns-clause-marks c = deaths.dead_nodes_are_marked

pub returns-clause-deaths : goal.returns-clause-deaths
returns-clause-deaths c = deaths.deaths_are_marked

pub returns-clause-ends : goal.returns-clause-ends
returns-clause-ends c = deaths.dead_nodes_end
