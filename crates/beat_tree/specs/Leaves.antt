-- The leaves of a tree of beats.
use Rattle.std.specs.Prelude.{◌≡◌, ℕ, ◌+◌, ◌<◌, ◌≤◌, true, false, Option, Some, None, IfSome}
use Rattle.kube_base.specs.declared.numbers.Beat.{Beat}
use Rattle.beat_tree.specs.declared.tree.BeatTree.{BeatTree}
use Rattle.beat_tree.specs.Tidy.{beat_at, comes_before}

-- how many there are
abbrev pub room : BeatTree → ℕ
room tree = tree.width

-- the beat of a leaf; none past the last one
abbrev pub leaf : BeatTree → ℕ → Option Beat
leaf tree i = beat_at tree.slots.items (tree.width + i)

abbrev pub IsBelow : ℕ → Option ℕ → Type 0
IsBelow j None = Unit {0}
IsBelow j (Some i) = j < i

-- the first leaf from one on whose beat comes before another; none exactly where there is none
pub record IsFirst (tree : BeatTree) (from : ℕ) (before : Option Beat) (i : Option ℕ) : Type 0 where
  pub there : IfSome i (λ n. (from ≤ n) × (comes_before (leaf tree n) before ≡ true))
  pub passed : (j : ℕ) → from ≤ j → IsBelow j i → comes_before (leaf tree j) before ≡ false
