use Rattle.history_laws.proofs.Versions.{versions_are_given, versions_rise, versions_are_contents}
use Rattle.history_laws.proofs.versions_are_writes.Goals as goal

pub returns-clause-given : goal.returns-clause-given
returns-clause-given c = versions_are_given

pub returns-clause-rise : goal.returns-clause-rise
returns-clause-rise c = versions_rise

pub returns-clause-contents : goal.returns-clause-contents
returns-clause-contents c = versions_are_contents
