use Rattle.takeover_laws.proofs.Acting as acting
use Rattle.takeover_laws.proofs.writers_act.Goals as goal

pub returns-clause-writers : goal.returns-clause-writers
returns-clause-writers c = acting.writers_act

pub returns-clause-records : goal.returns-clause-records
returns-clause-records c = acting.records_stay
