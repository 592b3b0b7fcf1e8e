use Rattle.leader_elector.proofs.elector.Elector.note.Goals as goal

pub returns-clause-observed : goal.returns-clause-observed
returns-clause-observed c = cc (c.first_sight-at.ensures c.in-Some.lease)
