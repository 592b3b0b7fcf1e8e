use Rattle.taint_queue.proofs.Numbered.{below_gone, placed_without}
use Rattle.taint_queue.proofs.pushes.Pushes.take_first.Goals as goal

pub invariant_of-self : goal.invariant_of-self
invariant_of-self c =
    let q = c.args.self.now in
    record {
      below = below_gone q.next q.order c.pop_first.new.self c.in-Some.place q.below c.in-Some.ensures.updates;
      placed = placed_without q.order c.pop_first.new.self q.places c.remove.new.self c.in-Some.node c.in-Some.place q.placed c.in-Some.ensures.value c.in-Some.ensures.updates c.remove.ensures.updates;
      ascends = c.pop_first.ensures.ordered;
    }
