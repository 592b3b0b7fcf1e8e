use Rattle.succession_laws.proofs.Following as following
use Rattle.succession_laws.proofs.successors_lead.Goals as goal

pub returns-clause-lead : goal.returns-clause-lead
returns-clause-lead c = following.successors_lead

pub returns-clause-told : goal.returns-clause-told
returns-clause-told c = following.successors_are_told
