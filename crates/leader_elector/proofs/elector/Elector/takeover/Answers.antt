use Rattle.std.proofs.Common.{Some}
use Rattle.leader_elector.proofs.elector.Elector.takeover.Goals as goal

pub returns-clause-history : goal.returns-clause-history
returns-clause-history c doc q k me incarnation timing wall =
    λ i. record (c.new_lease.ensures.history doc q k me incarnation timing wall i) { transitions = Some (c.one_more.ensures i) }

pub returns-clause-moment : goal.returns-clause-moment
returns-clause-moment c now = λ i. record (c.new_lease.ensures.moment now i) { transitions = Some (c.one_more.ensures i) }
