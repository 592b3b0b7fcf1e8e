use Rattle.span_laws.proofs.Spans as spans
use Rattle.span_laws.proofs.readings_grow.Goals as goal

pub returns-clause-grow : goal.returns-clause-grow
returns-clause-grow c = spans.readings_grow

pub returns-clause-last : goal.returns-clause-last
returns-clause-last c = spans.readings_last
