use Rattle.heard_laws.proofs.Dead as dead
use Rattle.heard_laws.proofs.kubelets_tell_until_they_die.Goals as goal

pub returns-clause-late : goal.returns-clause-late
returns-clause-late c = dead.last_words_are_late

pub returns-clause-soon : goal.returns-clause-soon
returns-clause-soon c = dead.last_words_are_soon
