use Rattle.std.proofs.Common.{length}
use Rattle.evict_queue.specs.Ahead.{IsWithin}
use Rattle.evict_queue.proofs.change.unstage.Given as goal

abbrev pub decreases-loop-pair : goal.decreases-loop-pair
decreases-loop-pair l = length l.rest

abbrev pub invariant-loop-pair : goal.invariant-loop-pair
invariant-loop-pair l = IsWithin l.dues l.timed l.rest
