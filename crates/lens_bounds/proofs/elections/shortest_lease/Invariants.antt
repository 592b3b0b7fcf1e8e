use Rattle.std.proofs.Common.{◌≡◌, drop}
use Rattle.lens_bounds.specs.Elections.{shortest_from, shortest_lease}
use Rattle.lens_bounds.proofs.elections.shortest_lease.Given as goal

-- what is left decides
abbrev pub invariant-loop-p : goal.invariant-loop-p
invariant-loop-p l = shortest_lease l.controllers ≡ shortest_from l.shortest (drop l.p-index l.controllers)
