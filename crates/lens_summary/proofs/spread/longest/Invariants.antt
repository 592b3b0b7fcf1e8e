use Rattle.std.proofs.Common.{◌≡◌, max, drop}
use Rattle.lens_summary.specs.Spread as spec
use Rattle.lens_summary.proofs.spread.longest.Given as goal

-- the most so far and that of the rest
abbrev pub invariant-loop-span : goal.invariant-loop-span
invariant-loop-span l = max l.most (spec.longest (drop l.span-index l.spans)) ≡ spec.longest l.spans
