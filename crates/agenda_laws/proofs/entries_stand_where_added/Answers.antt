use Rattle.agenda_laws.proofs.Standing as standing
use Rattle.agenda_laws.proofs.entries_stand_where_added.Goals as goal

pub returns-clause-theirs : goal.returns-clause-theirs
returns-clause-theirs c = standing.beats_add_theirs

pub returns-clause-stands : goal.returns-clause-stands
returns-clause-stands c = standing.entries_stand_where_added

pub returns-clause-tested : goal.returns-clause-tested
returns-clause-tested c = standing.standing_is_tested
