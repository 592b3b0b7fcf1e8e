use Rattle.std.proofs.Common.{◌≡◌, drop}
use Rattle.lens_explain.specs.Ways.{found_from, led}
use Rattle.lens_explain.proofs.walk.follow.Given as goal

-- what is found so far, with the rest, is where the path leads
abbrev pub invariant-loop-place : goal.invariant-loop-place
invariant-loop-place l = found_from l.way l.input l.place (drop l.place l.input) l.walk.scan l.walk.outer.items l.walk.next l.walk.found ≡ led l.path l.input
