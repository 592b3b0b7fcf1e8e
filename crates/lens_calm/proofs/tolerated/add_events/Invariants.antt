use Rattle.std.proofs.Common.{◌≡◌, drop}
use Rattle.lens_calm.specs.Tolerated.{with_events}
use Rattle.lens_calm.proofs.tolerated.add_events.Given as goal

-- what is left decides
abbrev pub invariant-loop-event : goal.invariant-loop-event
invariant-loop-event l = with_events l.fn.times.items l.events ≡ with_events l.times.items (drop l.event-index l.events)
