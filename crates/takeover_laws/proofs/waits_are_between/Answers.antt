use Rattle.takeover_laws.proofs.Waits as waits
use Rattle.takeover_laws.proofs.waits_are_between.Goals as goal

pub returns-clause-between : goal.returns-clause-between
returns-clause-between c = waits.waits_are_between

pub returns-clause-whole : goal.returns-clause-whole
returns-clause-whole c = waits.own_waits_are_whole
