use Rattle.std.proofs.Common.{◌≡◌, ◌≤◌, ◌+◌, count_by, drop}
use Rattle.lens_summary.specs.Totals as spec
use Rattle.lens_summary.proofs.totals.count.Given as goal

-- those so far and those of the rest
abbrev pub invariant-loop-outcome : goal.invariant-loop-outcome
invariant-loop-outcome l = record {
  few : l.number ≤ l.outcome-index;
  counted : l.number + count_by (spec.is l.wanted) (drop l.outcome-index l.outcomes) ≡ count_by (spec.is l.wanted) l.outcomes;
}
