use Rattle.history_laws.proofs.Starts as proved
use Rattle.history_laws.proofs.starts_are_few.Goals as goal

pub returns : goal.returns
returns c = proved.starts_are_few
