use Rattle.agenda_laws.proofs.Times as times
use Rattle.agenda_laws.proofs.turns_wake_by_readings.Goals as goal

pub returns-clause-restarts : goal.returns-clause-restarts
returns-clause-restarts c = times.restarts_wake

pub returns-clause-expiries : goal.returns-clause-expiries
returns-clause-expiries c = times.expiries_wake

pub returns-clause-deadlines : goal.returns-clause-deadlines
returns-clause-deadlines c = times.deadlines_wake

pub returns-clause-attempts : goal.returns-clause-attempts
returns-clause-attempts c = times.attempts_wake

pub returns-clause-rounds : goal.returns-clause-rounds
returns-clause-rounds c = times.rounds_wake

pub returns-clause-electors : goal.returns-clause-electors
returns-clause-electors c = times.electors_wake

pub returns-clause-kubelets : goal.returns-clause-kubelets
returns-clause-kubelets c = times.kubelets_wake
