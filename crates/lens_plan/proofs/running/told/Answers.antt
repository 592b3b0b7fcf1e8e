use Rattle.lens_plan.proofs.Small.{small-found}
use Rattle.lens_plan.proofs.Endings.{told-found}
use Rattle.lens_plan.proofs.running.told.Goals as goal

pub told_of-requires-clause-plan : goal.told_of-requires-clause-plan
told_of-requires-clause-plan c = small-found c.args.wanted.wish c.found_for.result c.found_for.ensures

pub returns : goal.returns
returns c = told-found c.args.wanted c.found_for.result c.found_for.ensures c.told_of.result c.told_of.ensures
