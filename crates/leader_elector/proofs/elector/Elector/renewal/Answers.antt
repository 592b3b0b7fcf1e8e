use Rattle.leader_elector.proofs.elector.Elector.renewal.Goals as goal

pub returns-clause-history : goal.returns-clause-history
returns-clause-history c doc q k me incarnation timing wall =
    let lease = c.args.lease.now in
    λ i. record (c.new_lease.ensures.history doc q k me incarnation timing wall i) { acquired = lease.acquired; transitions = lease.transitions }

pub returns-clause-moment : goal.returns-clause-moment
returns-clause-moment c now =
    let lease = c.args.lease.now in
    λ i. record (c.new_lease.ensures.moment now i) { acquired = lease.acquired; transitions = lease.transitions }
