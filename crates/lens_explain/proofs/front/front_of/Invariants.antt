use Rattle.std.proofs.Common.{◌≡◌, drop}
use Rattle.lens_explain.specs.Fronts.{front_from, front_of}
use Rattle.lens_explain.proofs.front.front_of.Given as goal

-- what is known so far, with the rest, is what is known of the text
abbrev pub invariant-loop-place : goal.invariant-loop-place
invariant-loop-place l = front_from l.place (drop l.place l.text) l.front.side l.front.begin l.front.closing.items ≡ front_of l.text
