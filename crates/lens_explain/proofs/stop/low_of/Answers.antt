use Rattle.lens_explain.proofs.Stops.{none_goes_on}
use Rattle.lens_explain.proofs.stop.low_of.Goals as goal

pub returns-else-branch-2-clause-goes_on : goal.returns-else-branch-2-clause-goes_on
returns-else-branch-2-clause-goes_on c = none_goes_on c.args.input.now
