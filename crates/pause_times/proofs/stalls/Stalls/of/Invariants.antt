use Rattle.std.proofs.Common.{◌≡◌, take}
use Rattle.pause_times.specs.Owned.{stalls_of}
use Rattle.pause_times.proofs.stalls.Stalls.of.Given as goal

abbrev pub invariant-loop-event : goal.invariant-loop-event
invariant-loop-event l = l.stalls.all.items ≡ stalls_of (take l.event-index l.events)
