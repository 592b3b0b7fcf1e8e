use Rattle.call_laws.proofs.Once.{answers_differ}
use Rattle.call_laws.proofs.Waiting as waiting
use Rattle.call_laws.proofs.calls_wait.Goals as goal

pub returns-clause-wait : goal.returns-clause-wait
returns-clause-wait c = waiting.calls_wait

pub returns-clause-once : goal.returns-clause-once
returns-clause-once c = answers_differ
