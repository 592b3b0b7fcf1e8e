use Rattle.span_laws.proofs.Looks as looks
use Rattle.span_laws.proofs.looks_find.Goals as goal

pub returns : goal.returns
returns c = looks.looks_find
