use Rattle.std.proofs.Common.{◌≡◌, drop}
use Rattle.takeover_laws.specs.Waits.{greatest_from}
use Rattle.lens_bounds.proofs.reach.greatest_from.Given as goal

-- what is left decides
abbrev pub invariant-loop-wait : goal.invariant-loop-wait
invariant-loop-wait l = greatest_from l.fn.first l.waits ≡ greatest_from l.most (drop l.wait-index l.waits)
