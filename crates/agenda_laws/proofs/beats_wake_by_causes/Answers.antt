use Rattle.agenda_laws.proofs.Waking as waking
use Rattle.agenda_laws.proofs.beats_wake_by_causes.Goals as goal

pub returns-clause-turns : goal.returns-clause-turns
returns-clause-turns c = waking.turns_wake

pub returns-clause-beats : goal.returns-clause-beats
returns-clause-beats c = waking.beats_wake

pub returns-clause-rested : goal.returns-clause-rested
returns-clause-rested c = waking.histories_are_rested

pub returns-clause-quiet : goal.returns-clause-quiet
returns-clause-quiet c = waking.quiet_beats_are_slept

pub returns-clause-next : goal.returns-clause-next
returns-clause-next c = waking.next_beats_wake

pub returns-clause-ends : goal.returns-clause-ends
returns-clause-ends c = waking.ends_wake_too
