use Rattle.std.proofs.Common.{◌≤◌}
use Rattle.lens_tune.proofs.Misses.{IsBest}
use Rattle.lens_tune.proofs.searching.least_failover.Given as goal

-- the least bound of the plans with the retry periods that were looked at
abbrev pub invariant-loop-retry : goal.invariant-loop-retry
invariant-loop-retry l = record {
  best : IsBest l.w l.least l.retry;
  less : l.least ≤ l.at_first;
}
