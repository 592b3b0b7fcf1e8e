use Rattle.std.proofs.Common.{◌≡◌, ◌++◌, drop}
use Rattle.pod_tools.specs.Collected.{collected_from}
use Rattle.pod_tools.proofs.collecting.collect.Given as goal

-- those so far, and those of the pods that are left
abbrev pub invariant-loop-place : goal.invariant-loop-place
invariant-loop-place l = collected_from l.input 0 l.input.pods ≡ l.picks ++ collected_from l.input l.place (drop l.place l.input.pods)
