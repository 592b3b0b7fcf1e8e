use Rattle.takeover_laws.proofs.Rounds as rounds
use Rattle.takeover_laws.proofs.Writers.{replies_count}
use Rattle.takeover_laws.proofs.rounds_are_short.Goals as goal

pub returns-clause-short : goal.returns-clause-short
returns-clause-short c = rounds.rounds_are_short

pub returns-clause-count : goal.returns-clause-count
returns-clause-count c = replies_count
