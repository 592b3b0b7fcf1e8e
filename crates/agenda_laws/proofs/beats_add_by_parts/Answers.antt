use Rattle.agenda_laws.proofs.Parts as parts
use Rattle.agenda_laws.proofs.Standing as standing
use Rattle.agenda_laws.proofs.beats_add_by_parts.Goals as goal

pub returns-clause-beats : goal.returns-clause-beats
returns-clause-beats c = standing.beats_add_by_parts

pub returns-clause-events : goal.returns-clause-events
returns-clause-events c = parts.events_add_by_parts

pub returns-clause-controllers : goal.returns-clause-controllers
returns-clause-controllers c = parts.controllers_add_by_parts

pub returns-clause-kubelets : goal.returns-clause-kubelets
returns-clause-kubelets c = parts.kubelets_add_by_parts

pub returns-clause-ticks : goal.returns-clause-ticks
returns-clause-ticks c = parts.ticks_add_by_parts

pub returns-clause-electors : goal.returns-clause-electors
returns-clause-electors c = parts.electors_add_by_parts
