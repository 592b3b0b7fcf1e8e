use Rattle.std.proofs.Common.{◌≡◌, ◌≤◌, ◌-◌, ◌*◌, ℕ, None, length}
use Rattle.beat_tree.specs.Tidy.{beat_at, doubled}
use Rattle.beat_tree.proofs.tree.BeatTree.new.Given as goal

abbrev pub invariant-deeper : goal.invariant-deeper
invariant-deeper l = record {
  some : 1 ≤ l.width;
  most : l.width ≤ 131072;
  deep : l.depth ≤ l.width;
  power : l.width ≡ doubled l.depth;
}

abbrev pub decreases-deeper : goal.decreases-deeper
decreases-deeper l = l.leaves - l.width

abbrev pub invariant-loop-slot : goal.invariant-loop-slot
invariant-loop-slot l = record {
  many : length l.slots.items ≡ l._slot;
  empty : (i : ℕ) → beat_at l.slots.items i ≡ None;
}
