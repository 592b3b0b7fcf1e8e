use Rattle.std.proofs.Common.{◌≡◌, ◌<◌, [], Some, None, length, sym, ◌∙◌, subst, rules, arith}
use Rattle.taint_queue.specs.Placed.{place}
use Rattle.taint_queue.specs.Slots.{slots}
use Rattle.taint_queue.proofs.Leaving.{last_has_its_place, other_beats, other_kept, other_known, own_beats, own_kept, own_known, own_slot_is_left}
use Rattle.taint_queue.proofs.Places.{none_from, none_taken, nothing_popped, placed_so, same_kept, same_known, slot_within}
use Rattle.taint_queue.proofs.queue.Queue.leave.Goals as goal

pub invariant_of-self : goal.invariant_of-self
invariant_of-self c =
    let q = c.args.self.now in
    let P = place q.places in
    let Q = place c.remove.new.self in
    let absent : P c.args.node ≡ None = sym c.remove.ensures.value ∙ none_from c.remove.result c.in_default.not-Some in
    let back = none_taken P Q c.args.node absent (placed_so q.places c.remove.new.self c.args.node None c.remove.ensures.updates) in
    record {
      has_its_node = same_known P Q (slots q.tree) back q.has_its_node;
      is_kept = same_kept P Q (slots q.tree) back q.is_kept;
    }

pub unreachable-requires : goal.unreachable-requires
unreachable-requires c =
    let q = c.args.self.now in
    let here : place q.places c.args.node ≡ Some c.in-Some.slot = search rules in
    let empty : slots q.tree ≡ [] = nothing_popped c.pop.result (slots q.tree) (slots c.pop.new.self) c.pop.ensures c.in_default-pop.not-Some in
    let within : c.in-Some.slot < length (slots q.tree) = slot_within (place q.places) (slots q.tree) q.has_its_node c.args.node c.in-Some.slot here in
    omega (arith, subst (λ xs. c.in-Some.slot < length xs) empty within)

pub fill-requires-clause-known : goal.fill-requires-clause-known
fill-requires-clause-known c =
    last_has_its_place c.args.self.now c.remove.new.self c.pop.new.self c.args.node c.in-Some.slot c.in-Some-pop.last (search rules)
    c.remove.ensures.updates c.in-Some-pop.ensures (λ e. c.if-last-node.true e)

pub fill-requires-clause-within : goal.fill-requires-clause-within
fill-requires-clause-within c =
    own_slot_is_left c.args.self.now c.remove.new.self c.pop.new.self c.args.node c.in-Some.slot c.in-Some-pop.last (search rules)
    c.remove.ensures.updates c.in-Some-pop.ensures (λ e. c.if-last-node.true e)

pub invariant_of-self-then-last-node : goal.invariant_of-self-then-last-node
invariant_of-self-then-last-node c =
    let here : place c.args.self.now.places c.args.node ≡ Some c.in-Some.slot = search rules in
    record {
      has_its_node = other_known c.args.self.now c.remove.new.self c.pop.new.self c.args.node c.in-Some.slot c.in-Some-pop.last here
          c.remove.ensures.updates c.in-Some-pop.ensures (λ e. c.if-last-node.true e)
          c.fill.new.places c.fill.new.tree c.fill.ensures.moved c.fill.ensures.filled;
      is_kept = other_kept c.args.self.now c.remove.new.self c.pop.new.self c.args.node c.in-Some.slot c.in-Some-pop.last here
          c.remove.ensures.updates c.in-Some-pop.ensures (λ e. c.if-last-node.true e)
          c.fill.new.places c.fill.new.tree c.fill.ensures.moved c.fill.ensures.filled;
    }

pub returns-then-last-node : goal.returns-then-last-node
returns-then-last-node c =
    other_beats c.args.self.now c.remove.new.self c.pop.new.self c.args.node c.in-Some.slot c.in-Some-pop.last (search rules)
    c.remove.ensures.updates c.in-Some-pop.ensures (λ e. c.if-last-node.true e)
    c.fill.new.places c.fill.new.tree c.fill.ensures.moved c.fill.ensures.filled

pub invariant_of-self-else-last-node : goal.invariant_of-self-else-last-node
invariant_of-self-else-last-node c =
    let here : place c.args.self.now.places c.args.node ≡ Some c.in-Some.slot = search rules in
    record {
      has_its_node = own_known c.args.self.now c.remove.new.self c.pop.new.self c.args.node c.in-Some.slot c.in-Some-pop.last here
          c.remove.ensures.updates c.in-Some-pop.ensures c.if-last-node.false;
      is_kept = own_kept c.args.self.now c.remove.new.self c.pop.new.self c.args.node c.in-Some.slot c.in-Some-pop.last here
          c.remove.ensures.updates c.in-Some-pop.ensures c.if-last-node.false;
    }

pub returns-else-last-node : goal.returns-else-last-node
returns-else-last-node c =
    own_beats c.args.self.now c.remove.new.self c.pop.new.self c.args.node c.in-Some.slot c.in-Some-pop.last (search rules)
    c.remove.ensures.updates c.in-Some-pop.ensures c.if-last-node.false
