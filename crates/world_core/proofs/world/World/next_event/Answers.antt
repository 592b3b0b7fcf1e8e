use Rattle.std.proofs.Common.{◌≡◌, Some, None, slice_get, sym, ap, ◌∙◌}
use Rattle.world_core.proofs.Skipping.{found-at, found-none, next-event, no-event}
use Rattle.world_core.proofs.world.World.next_event.Goals as goal

pub returns-in-Some : goal.returns-in-Some
returns-in-Some c doc k h s lawful =
    let w = c.args.self.now in
    let es = c.as_slice.result.now in
    let here : slice_get es w.place ≡ Some c.in-Some.event.now = found-at es w.place c.in-Some.event.now (c.in-Some.ensures.lookup.0, c.in-Some.ensures.lookup.1) in
    next-event doc k w.place c.in-Some.event.now s.placed (sym (ap (λ xs. slice_get xs w.place) (c.as_slice.ensures ∙ s.within.rest.document.events)) ∙ here)

pub returns-in-None : goal.returns-in-None
returns-in-None c doc k h s lawful =
    let w = c.args.self.now in
    let es = c.as_slice.result.now in
    let none : slice_get es w.place ≡ None = found-none es w.place (sym c.in-None.ensures.lookup.0) in
    no-event doc k w.place s.placed (sym (ap (λ xs. slice_get xs w.place) (c.as_slice.ensures ∙ s.within.rest.document.events)) ∙ none)
