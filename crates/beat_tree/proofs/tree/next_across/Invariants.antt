use Rattle.std.proofs.Common.{◌≤◌, ◌+◌, ℕ}
use Rattle.beat_tree.specs.Tidy.{IsFirstBelow}
use Rattle.beat_tree.proofs.tree.next_across.Given as goal

abbrev pub invariant-loop-next : goal.invariant-loop-next
invariant-loop-next l = record {
  some : 1 ≤ l.next;
  below : (d : ℕ) × IsFirstBelow d (l.slot + 1) l.next;
}

abbrev pub decreases-loop-next : goal.decreases-loop-next
decreases-loop-next l = l.next
