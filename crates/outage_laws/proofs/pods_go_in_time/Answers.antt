use Rattle.outage_laws.proofs.Gone as gone
use Rattle.outage_laws.proofs.pods_go_in_time.Goals as goal

pub returns-clause-go : goal.returns-clause-go
returns-clause-go c = gone.pods_go

pub returns-clause-stay : goal.returns-clause-stay
returns-clause-stay c = gone.pods_stay
