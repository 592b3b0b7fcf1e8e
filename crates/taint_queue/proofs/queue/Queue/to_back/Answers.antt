use Rattle.std.proofs.Common.{◌≡◌, ◌==◌, Some, cond, ap, sym, ◌∙◌, refl, subst, rules}
use Rattle.taint_queue.specs.Placed.{beat_at, place, HasItsNode, IsKept}
use Rattle.taint_queue.specs.Slots.{slots}
use Rattle.taint_queue.specs.declared.waiting.Waiting.{Waiting}
use Rattle.taint_queue.proofs.Places.{held_beat, moved_beat, moved_kept, moved_known, slot_within}
use Rattle.taint_queue.proofs.queue.Queue.to_back.Goals as goal

pub put-requires : goal.put-requires
put-requires c =
    let q = c.args.self.now in
    let here : place q.places c.args.node ≡ Some c.in-Some.slot.now = search rules in
    slot_within (place q.places) (slots q.tree) q.has_its_node c.args.node c.in-Some.slot.now here

pub invariant_of-self : goal.invariant_of-self
invariant_of-self c =
    let q = c.args.self.now in
    let P = place q.places in
    let w : Waiting = record { at = c.args.at; node = c.args.node } in
    let here : place q.places c.args.node ≡ Some c.in-Some.slot.now = search rules in
    record {
      has_its_node = subst (HasItsNode P) (sym c.put.ensures) (moved_known P (slots q.tree) c.args.node c.in-Some.slot.now w q.has_its_node q.is_kept here refl);
      is_kept = subst (IsKept P) (sym c.put.ensures) (moved_kept P (slots q.tree) c.args.node c.in-Some.slot.now w q.has_its_node q.is_kept here refl);
    }

pub returns-in-Some : goal.returns-in-Some
returns-in-Some c = λ other.
    let q = c.args.self.now in
    let P = place q.places in
    let w : Waiting = record { at = c.args.at; node = c.args.node } in
    let here : place q.places c.args.node ≡ Some c.in-Some.slot.now = search rules in
    ap (λ xs. beat_at P xs other) c.put.ensures
    ∙ moved_beat P (slots q.tree) c.args.node c.in-Some.slot.now w q.has_its_node q.is_kept here refl other
    ∙ ap (λ x. cond (c.args.node == other) x (beat_at P (slots q.tree) other)) (sym (held_beat P (slots q.tree) q.has_its_node c.args.node c.in-Some.slot.now c.args.at here))
