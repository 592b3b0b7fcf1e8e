use Rattle.std.proofs.Common.{◌≡◌, ◌+◌, ◌-◌, ◌*◌, ◌%◌, ◌<◌, ◌≤◌, true, ℕ}
use Rattle.beat_tree.specs.Tidy.{beat_at, comes_before}
use Rattle.beat_tree.proofs.Ways.{Here}
use Rattle.beat_tree.proofs.tree.BeatTree.first_before.Given as goal

abbrev pub invariant-across : goal.invariant-across
invariant-across l = record {
  some : 1 ≤ l.slot;
  within : l.slot < 2 * l.self.width;
  here : (d : ℕ) × Here l.self.slots.items l.before (2 * l.self.width - 1) (l.self.width + l.from) d l.slot;
}

abbrev pub decreases-across : goal.decreases-across
decreases-across l = l.slot + 2 * ((l.slot + 1) % 2)

abbrev pub invariant-down : goal.invariant-down
invariant-down l = record {
  some : 1 ≤ l.slot;
  within : l.slot < 2 * l.self.width;
  sooner : comes_before (beat_at l.self.slots.items l.slot) l.before ≡ true;
  here : (d : ℕ) × Here l.self.slots.items l.before (2 * l.self.width - 1) (l.self.width + l.from) d l.slot;
}

abbrev pub decreases-down : goal.decreases-down
decreases-down l = l.self.width - l.slot
