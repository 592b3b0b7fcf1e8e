use Rattle.agenda_laws.proofs.Ahead as ahead
use Rattle.agenda_laws.proofs.next_beats_are_soonest.Goals as goal

pub returns-clause-first : goal.returns-clause-first
returns-clause-first c = ahead.no_turns_are_first

pub returns-clause-more : goal.returns-clause-more
returns-clause-more c = ahead.turns_are_added

pub returns-clause-next : goal.returns-clause-next
returns-clause-next c = ahead.the_soonest_is_next
