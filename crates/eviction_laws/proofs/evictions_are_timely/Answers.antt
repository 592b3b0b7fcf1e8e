use Rattle.std.proofs.Common.{suc}
use Rattle.kube_objects.specs.Document.{end_beat}
use Rattle.eviction_laws.proofs.Early as early
use Rattle.eviction_laws.proofs.Limit as limit
use Rattle.eviction_laws.proofs.Turns as turns
use Rattle.eviction_laws.proofs.evictions_are_timely.Goals as goal

pub returns-clause-never_early : goal.returns-clause-never_early
returns-clause-never_early c doc k = early.never_early doc k

pub returns-clause-always_prompt : goal.returns-clause-always_prompt
returns-clause-always_prompt c doc q k = turns.prompt doc q k

pub returns-clause-not_early : goal.returns-clause-not_early
returns-clause-not_early c doc = early.never_early doc (suc (end_beat doc))

pub returns-clause-prompt : goal.returns-clause-prompt
returns-clause-prompt c doc q k end = turns.prompt doc q k

pub returns-clause-limited : goal.returns-clause-limited
returns-clause-limited c doc = limit.limit doc
