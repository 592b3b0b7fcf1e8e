use Rattle.heard_laws.proofs.Heard as heard
use Rattle.heard_laws.proofs.passes_hear.Goals as goal

pub returns-clause-most : goal.returns-clause-most
returns-clause-most c = heard.passes_hear_in_time

pub returns-clause-least : goal.returns-clause-least
returns-clause-least c = heard.renewals_are_heard
