use Rattle.std.proofs.Common.{◌-◌}
use Rattle.beat_tree.proofs.Searching.{AsRoot}
use Rattle.beat_tree.proofs.tree.BeatTree.least.Given as goal

abbrev pub invariant-loop-slot : goal.invariant-loop-slot
invariant-loop-slot l = AsRoot l.self l.slot

abbrev pub decreases-loop-slot : goal.decreases-loop-slot
decreases-loop-slot l = l.self.width - l.slot
