use Rattle.std.proofs.Common.{◌≡◌, true, [], ◌∷◌, ◌++◌, Some, None, is_some, ap, sym, ◌∙◌, subst, rules}
use Rattle.taint_queue.specs.Placed.{beat_at, place, HasItsNode, IsKept}
use Rattle.taint_queue.specs.Slots.{slots}
use Rattle.taint_queue.specs.declared.waiting.Waiting.{Waiting}
use Rattle.taint_queue.proofs.Places.{beat_stays, entered, no_place, placed_so, same_kept, same_known, some_place, unchanged_places, undone}
use Rattle.taint_queue.proofs.queue.Queue.want.Goals as goal

pub returns-then-contains_key-clause-ok : goal.returns-then-contains_key-clause-ok
returns-then-contains_key-clause-ok c = λ other.
    let q = c.args.self.now in
    let P = place q.places in
    let there : is_some (P c.args.node) ≡ true = sym c.contains_key.ensures ∙ c.if-contains_key.true in
    let found = some_place (P c.args.node) there in
    beat_stays P (slots q.tree) q.has_its_node c.args.node found.0 c.args.at found.1 other

pub invariant_of-self : goal.invariant_of-self
invariant_of-self c =
    let q = c.args.self.now in
    let P = place q.places in
    let same : c.insert.new.self.entries ≡ q.places.entries = search rules in
    record {
      has_its_node = same_known P (place c.insert.new.self) (slots q.tree) (unchanged_places q.places c.insert.new.self same) q.has_its_node;
      is_kept = same_kept P (place c.insert.new.self) (slots q.tree) (unchanged_places q.places c.insert.new.self same) q.is_kept;
    }

pub invariant_of-self-then-is_err : goal.invariant_of-self-then-is_err
invariant_of-self-then-is_err c =
    let q = c.args.self.now in
    let P = place q.places in
    let Q = place c.insert.new.self in
    let R = place c.remove.new.self in
    let node = c.args.node in
    let absent : P node ≡ None = no_place (P node) (sym c.contains_key.ensures ∙ c.if-contains_key.false) in
    let add = placed_so q.places c.insert.new.self node (Some c.len-slot.result) c.in_ok-insert.ensures.updates in
    let take = placed_so c.insert.new.self c.remove.new.self node None c.remove.ensures.updates in
    let back = undone P Q R node c.len-slot.result absent add take in
    let same : slots q.tree ≡ slots c.push.new.self = search rules in
    record {
      has_its_node = subst (HasItsNode R) same (same_known P R (slots q.tree) back q.has_its_node);
      is_kept = subst (IsKept R) same (same_kept P R (slots q.tree) back q.is_kept);
    }

pub invariant_of-self-else-is_err : goal.invariant_of-self-else-is_err
invariant_of-self-else-is_err c =
    let q = c.args.self.now in
    let xs = slots q.tree in
    let w : Waiting = record { at = c.args.at; node = c.args.node } in
    let longer : xs ++ w ∷ [] ≡ slots c.push.new.self = search rules in
    let e = entered q.places c.insert.new.self xs w c.len-slot.result q.has_its_node q.is_kept (sym c.contains_key.ensures ∙ c.if-contains_key.false) c.len-slot.ensures c.in_ok-insert.ensures.updates in
    record {
      has_its_node = subst (HasItsNode (place c.insert.new.self)) longer e.known;
      is_kept = subst (IsKept (place c.insert.new.self)) longer e.kept;
    }

pub returns-clause-ok : goal.returns-clause-ok
returns-clause-ok c = λ other.
    let q = c.args.self.now in
    let xs = slots q.tree in
    let w : Waiting = record { at = c.args.at; node = c.args.node } in
    let longer : slots c.push.new.self ≡ xs ++ w ∷ [] = search rules in
    let e = entered q.places c.insert.new.self xs w c.len-slot.result q.has_its_node q.is_kept (sym c.contains_key.ensures ∙ c.if-contains_key.false) c.len-slot.ensures c.in_ok-insert.ensures.updates in
    ap (λ ys. beat_at (place c.insert.new.self) ys other) longer ∙ e.beat other
