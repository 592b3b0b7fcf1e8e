use Rattle.std.proofs.Common.{◌≡◌, length}
use Rattle.zone_counts.proofs.RateLaws.{all_of}
use Rattle.zone_counts.proofs.rates.all_full.Given as goal

abbrev pub invariant-loop-zone : goal.invariant-loop-zone
invariant-loop-zone l = all_of l.percent l.rest ≡ all_of l.percent l.zones

abbrev pub decreases-loop-zone : goal.decreases-loop-zone
decreases-loop-zone l = length l.rest
