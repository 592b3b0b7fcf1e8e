use Rattle.std.proofs.Common.{◌≡◌, drop}
use Rattle.std.specs.List.{list_all}
use Rattle.lens_bounds.specs.Elections.{shortest_lease, as_respected, stays_by, all_stay}
use Rattle.lens_bounds.proofs.elections.all_stay.Given as goal

-- what is left decides
abbrev pub invariant-loop-p : goal.invariant-loop-p
invariant-loop-p l = record {
  rest : all_stay l.c l.controllers ≡ list_all (λ p. stays_by l.c (as_respected l.c.respect (shortest_lease l.controllers) p)) (drop l.p-index l.controllers);
  least : l.least ≡ shortest_lease l.controllers;
}
