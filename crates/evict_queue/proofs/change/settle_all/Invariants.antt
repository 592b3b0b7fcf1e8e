use Rattle.std.proofs.Common.{◌≡◌, [], length}
use Rattle.kube_objects.specs.declared.key.Key.{Key}
use Rattle.evict_queue.specs.Ahead.{Ahead, HasRoomsBut}
use Rattle.evict_queue.specs.Changed.{changed, KeysDiffer}
use Rattle.evict_queue.specs.Held.{due_of}
use Rattle.evict_queue.proofs.change.settle_all.Given as goal

abbrev pub decreases-loop-pair : goal.decreases-loop-pair
decreases-loop-pair l = length l.rest

abbrev pub invariant-loop-pair : goal.invariant-loop-pair
invariant-loop-pair l = record {
  ahead : Ahead l.dues l.timed l.rest;
  rooms : HasRoomsBut l.dues l.rest [];
  differ : KeysDiffer l.rest;
  same : (key : Key) → changed l.rest (due_of l.dues key) key ≡ changed l.list (due_of l.fn.dues key) key;
}
