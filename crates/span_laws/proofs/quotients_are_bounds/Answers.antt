use Rattle.span_laws.proofs.Quotients as quotients
use Rattle.span_laws.proofs.quotients_are_bounds.Goals as goal

pub returns-clause-rounded : goal.returns-clause-rounded
returns-clause-rounded c = quotients.rounded_is

pub returns-clause-exact : goal.returns-clause-exact
returns-clause-exact c = quotients.bounds_are_exact
