use Rattle.death_laws.proofs.Deaths as deaths
use Rattle.death_laws.proofs.pods_go_after_failovers.Goals as goal

pub returns : goal.returns
returns c = deaths.pods_go_after_failovers
