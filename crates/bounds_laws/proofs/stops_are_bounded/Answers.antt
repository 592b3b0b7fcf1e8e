use Rattle.bounds_laws.proofs.Bounded.{stops_are_bounded}
use Rattle.bounds_laws.proofs.stops_are_bounded.Goals as goal

pub returns : goal.returns
returns c = stops_are_bounded
