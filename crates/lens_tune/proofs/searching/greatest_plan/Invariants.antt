use Rattle.std.proofs.Common.{◌≤◌}
use Rattle.lens_tune.proofs.Misses.{AreShorter}
use Rattle.lens_tune.proofs.searching.greatest_plan.Given as goal

-- those that fit have shorter leases
abbrev pub invariant-loop-lease : goal.invariant-loop-lease
invariant-loop-lease l = record {
  shorter : AreShorter l.w l.lease;
  few : l.lease ≤ 86401;
}

abbrev pub decreases-loop-lease : goal.decreases-loop-lease
decreases-loop-lease l = l.lease
