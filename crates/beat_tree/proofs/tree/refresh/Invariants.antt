use Rattle.std.proofs.Common.{◌≡◌, ◌≤◌, ◌<◌, ◌*◌, ◌/◌, ℕ, length}
use Rattle.beat_tree.specs.Tidy.{IsTidyBut, beat_at}
use Rattle.beat_tree.proofs.tree.refresh.Given as goal

abbrev pub invariant-loop-slot : goal.invariant-loop-slot
invariant-loop-slot l = record {
  some : 1 ≤ l.slot;
  within : l.slot < length l.slots;
  long : length l.slots ≡ length l.fn.slots;
  tidy : IsTidyBut l.slots (l.slot / 2);
  same : (i : ℕ) → length l.fn.slots ≤ 2 * i → beat_at l.slots i ≡ beat_at l.fn.slots i;
}

abbrev pub decreases-loop-slot : goal.decreases-loop-slot
decreases-loop-slot l = l.slot
