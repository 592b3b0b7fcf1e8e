use Rattle.std.proofs.Common.{◌≡◌, ◌++◌, map}
use Rattle.zone_counts.proofs.Listed.{zone_of}
use Rattle.zone_counts.proofs.counts.Counts.list.Given as goal

abbrev pub invariant-loop-place : goal.invariant-loop-place
invariant-loop-place l = l.list.items ++ map zone_of l.place-iterator ≡ map zone_of l.self.zones.entries
