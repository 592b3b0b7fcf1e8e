use Rattle.std.proofs.Common.{◌≡◌, ◌≤◌, max, drop}
use Rattle.lens_bounds.specs.Elections.{longest_term}
use Rattle.lens_bounds.proofs.elections.longest_term.Given as goal

-- what is left decides
abbrev pub invariant-loop-p : goal.invariant-loop-p
invariant-loop-p l = record {
  rest : max l.longest (longest_term (drop l.p-index l.controllers)) ≡ longest_term l.controllers;
  few : l.longest ≤ 8589934590;
}
