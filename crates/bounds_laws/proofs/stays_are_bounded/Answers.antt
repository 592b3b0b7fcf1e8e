use Rattle.bounds_laws.proofs.Bounded.{stays_are_bounded}
use Rattle.bounds_laws.proofs.stays_are_bounded.Goals as goal

pub returns : goal.returns
returns c = stays_are_bounded
