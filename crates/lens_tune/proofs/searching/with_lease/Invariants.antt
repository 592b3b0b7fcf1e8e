use Rattle.std.proofs.Common.{◌≤◌}
use Rattle.lens_tune.proofs.Misses.{AreBelow}
use Rattle.lens_tune.proofs.searching.with_lease.Given as goal

-- those that fit have shorter retry periods
abbrev pub invariant-loop-retry : goal.invariant-loop-retry
invariant-loop-retry l = record {
  below : AreBelow l.w l.lease l.retry;
  few : l.retry ≤ 864001;
}

abbrev pub decreases-loop-retry : goal.decreases-loop-retry
decreases-loop-retry l = l.retry
