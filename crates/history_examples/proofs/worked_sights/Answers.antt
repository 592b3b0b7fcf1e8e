use Rattle.history_examples.proofs.Sights as worked
use Rattle.history_examples.proofs.worked_sights.Goals as goal

pub returns-clause-counted_from_sight : goal.returns-clause-counted_from_sight
returns-clause-counted_from_sight c = worked.counted_from_sight

pub returns-clause-within_the_limit : goal.returns-clause-within_the_limit
returns-clause-within_the_limit c = worked.within_the_limit
