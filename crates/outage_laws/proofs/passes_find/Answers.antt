use Rattle.outage_laws.proofs.Passes as passes
use Rattle.outage_laws.proofs.passes_find.Goals as goal

pub returns : goal.returns
returns c = passes.passes_find
