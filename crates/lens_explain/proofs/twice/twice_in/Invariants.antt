use Rattle.std.proofs.Common.{◌≡◌, ◌≤◌, ◌++◌, List, length, take, drop}
use Rattle.lens_explain.specs.Keys.{KeyAt, doubled, keys_from, twice_behind}
use Rattle.lens_explain.specs.Kept.{Keeps}
use Rattle.lens_explain.proofs.twice.twice_in.Given as goal

-- those so far and those of the rest, by the keys that were met
abbrev pub invariant-loop-place : goal.invariant-loop-place
invariant-loop-place l = (earlier : List KeyAt) × Keeps l.places.kept earlier × (length l.found.items ≤ 20)
    × (take 20 (l.found.items ++ twice_behind earlier (keys_from l.input l.place (drop l.place l.input) l.keys.scan l.keys.outer.items)) ≡ doubled l.input)
