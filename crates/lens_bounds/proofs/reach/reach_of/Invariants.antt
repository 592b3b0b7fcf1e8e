use Rattle.std.proofs.Common.{◌≡◌, drop}
use Rattle.lens_bounds.specs.Documents.{with_events}
use Rattle.lens_bounds.proofs.reach.reach_of.Given as goal

-- what is left decides
abbrev pub invariant-loop-event : goal.invariant-loop-event
invariant-loop-event l = with_events l.count l.controllers l.document.events l.initial.reach ≡ with_events l.count l.controllers (drop l.event-index l.document.events) l.reach
