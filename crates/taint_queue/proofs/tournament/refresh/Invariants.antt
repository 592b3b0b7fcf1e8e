use Rattle.std.proofs.Common.{◌<◌, length}
use Rattle.taint_queue.specs.Tidy.{IsTidyBut}
use Rattle.taint_queue.proofs.tournament.refresh.Given as goal

abbrev pub invariant-loop-slot : goal.invariant-loop-slot
invariant-loop-slot l = record {
  within : l.slot < length l.waiting;
  tidy : IsTidyBut l.waiting l.least l.slot;
}

abbrev pub decreases-loop-slot : goal.decreases-loop-slot
decreases-loop-slot l = l.slot
