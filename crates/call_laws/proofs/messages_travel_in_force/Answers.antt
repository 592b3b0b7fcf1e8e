use Rattle.call_laws.proofs.Placing as placing
use Rattle.call_laws.proofs.messages_travel_in_force.Goals as goal

pub returns-clause-beats : goal.returns-clause-beats
returns-clause-beats c = placing.entries_stand_in_beats

pub returns-clause-forces : goal.returns-clause-forces
returns-clause-forces c = placing.forces_stand

pub returns-clause-travel : goal.returns-clause-travel
returns-clause-travel c = placing.messages_travel
