use Rattle.bounds_laws.proofs.Bounded.{leads_are_bounded}
use Rattle.bounds_laws.proofs.leads_are_bounded.Goals as goal

pub returns : goal.returns
returns c = leads_are_bounded
