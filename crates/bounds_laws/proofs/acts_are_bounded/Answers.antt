use Rattle.bounds_laws.proofs.Bounded.{acts_are_bounded}
use Rattle.bounds_laws.proofs.acts_are_bounded.Goals as goal

pub returns : goal.returns
returns c = acts_are_bounded
