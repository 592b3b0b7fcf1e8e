use Rattle.std.proofs.Common.{◌≡◌, ◌+◌, ◌-◌, ℕ, vec_len}
use Rattle.key_map.specs.Rows.{place_in}
use Rattle.key_map.proofs.shelf.make_places.Given as goal

abbrev pub invariant-loop-places : goal.invariant-loop-places
invariant-loop-places l = (n : ℕ) → place_in l.places.items n ≡ place_in l.initial.places.items n

abbrev pub decreases-loop-places : goal.decreases-loop-places
decreases-loop-places l = l.name + 1 - vec_len l.places
