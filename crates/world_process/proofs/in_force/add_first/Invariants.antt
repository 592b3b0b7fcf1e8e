use Rattle.std.proofs.Common.{◌≡◌, ◌++◌, map, take}
use Rattle.world_process.specs.InForce.{standing_first}
use Rattle.world_process.proofs.in_force.add_first.Given as goal

abbrev pub invariant-loop-process : goal.invariant-loop-process
invariant-loop-process l = l.standing.items ≡ l.initial.standing.items ++ map standing_first (take l.process-index l.processes)
