use Rattle.pod_tools.proofs.placing.placement_by.Goals as goal

pub returns-in-Some-clause-placement : goal.returns-in-Some-clause-placement
returns-in-Some-clause-placement c = rw c.in-Some.is at (c.in_ok-placement.ensures c.args.nodes.now c.requires.right)
