use Rattle.std.proofs.Common.{◌≡◌, ◌++◌, drop}
use Rattle.pod_tools.specs.Feasible.{placed_from}
use Rattle.pod_tools.specs.Judged.{AreRight}
use Rattle.pod_tools.proofs.placing.place.Given as goal

-- those so far, and those of the pods that are left
abbrev pub invariant-loop-place : goal.invariant-loop-place
invariant-loop-place l =
    record {
      so_far : placed_from l.input.nodes 0 l.input.pods ≡ l.placements ++ placed_from l.input.nodes l.place (drop l.place l.input.pods);
      right : AreRight l.input.nodes l.judgements;
    }
