use Rattle.agenda_laws.proofs.Ticking as ticking
use Rattle.agenda_laws.proofs.ticks_wake_by_times.Goals as goal

pub returns-clause-syncs : goal.returns-clause-syncs
returns-clause-syncs c = ticking.syncs_wake

pub returns-clause-passes : goal.returns-clause-passes
returns-clause-passes c = ticking.passes_wake

pub returns-clause-cleans : goal.returns-clause-cleans
returns-clause-cleans c = ticking.cleans_wake

pub returns-clause-judges : goal.returns-clause-judges
returns-clause-judges c = ticking.judges_wake

pub returns-clause-heads : goal.returns-clause-heads
returns-clause-heads c = ticking.heads_wake

pub returns-clause-deletes : goal.returns-clause-deletes
returns-clause-deletes c = ticking.deletes_wake

pub returns-clause-rooms : goal.returns-clause-rooms
returns-clause-rooms c = ticking.rooms_wake

pub returns-clause-ticks : goal.returns-clause-ticks
returns-clause-ticks c = ticking.ticks_wake
