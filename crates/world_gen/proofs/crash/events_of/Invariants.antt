use Rattle.std.proofs.Common.{◌≡◌, map, take}
use Rattle.world_gen.specs.Generated.{event}
use Rattle.world_gen.proofs.crash.events_of.Given as goal

abbrev pub invariant-loop-crash : goal.invariant-loop-crash
invariant-loop-crash l = l.events ≡ map event (take l.crash-index l.all)
