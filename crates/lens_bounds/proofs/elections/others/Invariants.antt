use Rattle.std.proofs.Common.{◌≡◌, drop, None, IfSome}
use Rattle.lens_bounds.specs.Elections.{others_from, AreFew}
use Rattle.lens_bounds.proofs.elections.others.Given as goal

-- what is left decides
abbrev pub invariant-loop-p : goal.invariant-loop-p
invariant-loop-p l = record {
  rest : others_from l.c l.term l.seconds l.place l.leader 0 l.controllers None
      ≡ others_from l.c l.term l.seconds l.place l.leader l.at (drop l.p-index l.controllers) l.found;
  place : l.at ≡ l.p-index;
  few : IfSome l.found AreFew;
}
