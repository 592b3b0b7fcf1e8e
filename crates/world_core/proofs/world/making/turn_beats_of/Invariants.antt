use Rattle.world_core.proofs.Passing.{NotedTo}
use Rattle.world_core.proofs.world.making.turn_beats_of.Given as goal

abbrev pub invariant-loop-i : goal.invariant-loop-i
invariant-loop-i l = NotedTo l.processes l.i l.turn_beats
