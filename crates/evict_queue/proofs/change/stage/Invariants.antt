use Rattle.std.proofs.Common.{length}
use Rattle.evict_queue.specs.Ahead.{IsPart, IsWithin, MissesAtMost}
use Rattle.evict_queue.proofs.change.stage.Given as goal

abbrev pub decreases-loop-pair : goal.decreases-loop-pair
decreases-loop-pair l = length l.rest

abbrev pub invariant-loop-pair : goal.invariant-loop-pair
invariant-loop-pair l = record {
  within : IsWithin l.dues l.timed l.list;
  misses : MissesAtMost l.timed l.list l.rest;
  part : IsPart l.rest l.list;
}
