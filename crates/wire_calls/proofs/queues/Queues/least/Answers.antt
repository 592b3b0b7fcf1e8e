use Rattle.std.proofs.Common.{◌∙◌, sym, ap, subst}
use Rattle.std.specs.VecDeque.{deque_items}
use Rattle.wire_calls.proofs.Beats.{below-least, items_by, IsLive}
use Rattle.wire_calls.proofs.queues.Queues.least.Goals as goal

pub returns-in-Some : goal.returns-in-Some
returns-in-Some g c live =
    let full = subst (IsLive deque_items) c.in-Some.ensures.value (live c.in-Some.entry.0.now.0) in (
      λ none. full (ap (items_by deque_items) (sym c.in-Some.ensures.value) ∙ none),
      below-least deque_items c.args.self.now.beats c.in-Some.entry.0.now c.in-Some.ensures.least,
    )
