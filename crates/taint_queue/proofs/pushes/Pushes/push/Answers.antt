use Rattle.std.proofs.Common.{◌≡◌, ◌+◌, Some, ap, ◌∙◌, subst, rules, nat_cmp}
use Rattle.std.specs.BTreeMap.{insert_entry, Updates}
use Rattle.taint_queue.proofs.Numbered.{below_put, below_same, none_next, nodes_of, placed_same, placed_undone, placed_with, pushed_last}
use Rattle.taint_queue.specs.PushNumbers.{AreBelow}
use Rattle.taint_queue.proofs.pushes.Pushes.push.Goals as goal

pub invariant_of-self-then-is_err : goal.invariant_of-self-then-is_err
invariant_of-self-then-is_err c =
    let q = c.args.self.now in
    let same : q.order.entries ≡ c.insert-2.new.self.entries = search rules in
    record {
      below = below_same q.order c.insert-2.new.self same q.next q.below;
      placed =
          placed_same q.order c.insert-2.new.self same c.remove.new.self
          (placed_undone q.order q.places c.insert.new.self c.remove.new.self c.args.node q.next q.placed (none_next q.next q.order q.below) c.in_ok-insert.ensures.updates c.remove.ensures.updates);
      ascends = c.insert-2.ensures.ordered;
    }

pub invariant_of-self-2 : goal.invariant_of-self-2
invariant_of-self-2 c =
    let q = c.args.self.now in
    let put : Updates nat_cmp q.order c.insert-2.new.self q.next (Some c.args.node) = search rules in
    let next : q.next + 1 ≡ c.in-Some.next = search rules in
    record {
      below = subst (λ n. AreBelow n c.insert-2.new.self) next (below_put q.next q.order c.insert-2.new.self c.args.node q.below put);
      placed = placed_with q.order c.insert-2.new.self q.places c.insert.new.self c.args.node q.next q.placed (none_next q.next q.order q.below) put c.in_ok-insert.ensures.updates;
      ascends = c.insert-2.ensures.ordered;
    }

pub returns-clause-names : goal.returns-clause-names
returns-clause-names c =
    let q = c.args.self.now in
    let entries : c.insert-2.new.self.entries ≡ insert_entry nat_cmp q.order.entries q.next c.args.node = search rules in
    ap nodes_of entries ∙ pushed_last q.next c.args.node q.order.entries q.ascends q.below
