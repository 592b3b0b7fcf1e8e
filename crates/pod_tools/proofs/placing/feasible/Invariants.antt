use Rattle.std.proofs.Common.{◌≡◌, ◌++◌, drop}
use Rattle.pod_tools.specs.Feasible.{feasible_from}
use Rattle.pod_tools.proofs.placing.feasible.Given as goal

-- those so far, and those of the nodes that are left
abbrev pub invariant-loop-place : goal.invariant-loop-place
invariant-loop-place l = feasible_from l.tolerations.all 0 l.nodes ≡ l.places ++ feasible_from l.tolerations.all l.place (drop l.place l.nodes)
