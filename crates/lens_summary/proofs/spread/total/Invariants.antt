use Rattle.std.proofs.Common.{◌≡◌, ◌≤◌, ◌+◌, min, sum_by, drop}
use Rattle.lens_summary.specs.Spread as spec
use Rattle.lens_summary.proofs.spread.total.Given as goal

-- those so far and those of the rest
abbrev pub invariant-loop-span : goal.invariant-loop-span
invariant-loop-span l = record {
  small : l.sum ≤ 4294967295;
  added : min (l.sum + sum_by spec.beats (drop l.span-index l.spans)) 4294967295 ≡ spec.total l.spans;
}
