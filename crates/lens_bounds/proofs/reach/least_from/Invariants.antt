use Rattle.std.proofs.Common.{◌≡◌, drop}
use Rattle.takeover_laws.specs.Waits.{least_from}
use Rattle.lens_bounds.proofs.reach.least_from.Given as goal

-- what is left decides
abbrev pub invariant-loop-wait : goal.invariant-loop-wait
invariant-loop-wait l = least_from l.fn.first l.waits ≡ least_from l.least (drop l.wait-index l.waits)
