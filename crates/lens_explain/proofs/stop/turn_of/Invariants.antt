use Rattle.std.proofs.Common.{◌≡◌, ◌<◌, ◌≤◌, ◌-◌, length, true, false}
use Rattle.lens_explain.specs.Fronts.{can_go_on}
use Rattle.lens_explain.proofs.stop.turn_of.Given as goal

-- the lower place can be ended, the higher one can't
abbrev pub invariant-nearer : goal.invariant-nearer
invariant-nearer l = record {
  apart : l.low < l.high;
  within : l.high ≤ length l.input;
  low : can_go_on l.input l.low ≡ true;
  high : can_go_on l.input l.high ≡ false;
}

abbrev pub decreases-nearer : goal.decreases-nearer
decreases-nearer l = l.high - l.low
