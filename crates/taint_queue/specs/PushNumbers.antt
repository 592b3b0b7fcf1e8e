-- The numbers under which pushes are kept.
use Rattle.std.specs.Prelude.{◌≡◌, ◌<◌, ◌↔◌, ℕ, true, Some}
use Rattle.std.specs.BTreeMap.{BTreeMap, get}
use Rattle.std.specs.BTreeSet.{BTreeSet, contains}
use Rattle.std.specs.Ordering.{nat_cmp, ordering_then}
use Rattle.std.specs.declared.cmp.Ordering.{Ordering}

-- by node, then by number
abbrev pub placed_cmp : ℕ × ℕ → ℕ × ℕ → Ordering
placed_cmp a b = ordering_then (nat_cmp a.0 b.0) (nat_cmp a.1 b.1)

-- each push has a number below the next one's
abbrev pub AreBelow : ℕ → BTreeMap ℕ ℕ → Type 0
AreBelow next order = (place node : ℕ) → get nat_cmp order place ≡ Some node → place < next

-- a push stands in the order exactly where it stands under its node
abbrev pub ArePlaced : BTreeMap ℕ ℕ → BTreeSet (ℕ × ℕ) → Type 0
ArePlaced order places = (place node : ℕ) → (get nat_cmp order place ≡ Some node) ↔ (contains placed_cmp places (node, place) ≡ true)
