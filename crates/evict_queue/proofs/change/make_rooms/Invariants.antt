use Rattle.std.proofs.Common.{◌≡◌, length}
use Rattle.kube_objects.specs.declared.key.Key.{Key}
use Rattle.evict_queue.specs.Ahead.{HasRoomsBut}
use Rattle.evict_queue.specs.Held.{due_of}
use Rattle.evict_queue.proofs.change.make_rooms.Given as goal

abbrev pub decreases-loop-pair : goal.decreases-loop-pair
decreases-loop-pair l = length l.rest

abbrev pub invariant-loop-pair : goal.invariant-loop-pair
invariant-loop-pair l = record {
  there : HasRoomsBut l.dues l.list l.rest;
  same : (key : Key) → due_of l.dues key ≡ due_of l.fn.dues key;
}
