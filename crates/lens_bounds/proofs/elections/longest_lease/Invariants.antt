use Rattle.std.proofs.Common.{◌≡◌, max, drop}
use Rattle.lens_bounds.specs.Elections.{longest_lease}
use Rattle.lens_bounds.proofs.elections.longest_lease.Given as goal

-- what is left decides
abbrev pub invariant-loop-p : goal.invariant-loop-p
invariant-loop-p l = max l.longest (longest_lease (drop l.p-index l.controllers)) ≡ longest_lease l.controllers
