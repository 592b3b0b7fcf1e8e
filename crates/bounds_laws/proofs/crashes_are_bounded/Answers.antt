use Rattle.bounds_laws.proofs.Bounded.{crashes_are_bounded}
use Rattle.bounds_laws.proofs.crashes_are_bounded.Goals as goal

pub returns : goal.returns
returns c = crashes_are_bounded
