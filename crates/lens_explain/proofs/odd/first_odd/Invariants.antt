use Rattle.std.proofs.Common.{◌≡◌, drop}
use Rattle.lens_explain.specs.Keys.{keys_from, keys_of}
use Rattle.lens_explain.specs.Odd as spec
use Rattle.lens_explain.proofs.odd.first_odd.Given as goal

-- none so far, so the first of the rest is the first of all
abbrev pub invariant-loop-place : goal.invariant-loop-place
invariant-loop-place l = spec.first_odd l.table l.owner (keys_from l.input l.place (drop l.place l.input) l.keys.scan l.keys.outer.items) ≡ spec.first_odd l.table l.owner (keys_of l.input)
