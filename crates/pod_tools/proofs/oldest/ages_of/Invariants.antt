use Rattle.std.proofs.Common.{◌≡◌, ◌++◌, drop}
use Rattle.pod_tools.specs.Collected.{ages_from}
use Rattle.pod_tools.proofs.oldest.ages_of.Given as goal

-- those so far, and those of the pods that are left
abbrev pub invariant-loop-place : goal.invariant-loop-place
invariant-loop-place l = ages_from 0 l.pods ≡ l.ages.items ++ ages_from l.place (drop l.place l.pods)
