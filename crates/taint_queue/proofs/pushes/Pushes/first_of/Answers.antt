use Rattle.std.proofs.Common.{subst}
use Rattle.std.specs.BTreeSet.{IsKeyRangeOf}
use Rattle.std.specs.declared.ops.Bound.TheVariants.{Included, Unbounded}
use Rattle.taint_queue.specs.PushNumbers.{placed_cmp}
use Rattle.taint_queue.proofs.Numbered.{first_found, none_found, other_found}
use Rattle.taint_queue.proofs.pushes.Pushes.first_of.Goals as goal

pub returns-then-other-node-clause-there : goal.returns-then-other-node-clause-there
returns-then-other-node-clause-there c =
    let q = c.args.self.now in
    let range = subst (IsKeyRangeOf placed_cmp (Included (c.args.node, 0)) Unbounded q.places) c.in-Some.ensures.steps (c.range.ensures.in_range tt) in
    first_found q.order q.places c.args.node q.placed c.in-Some.field-0.now c.next.new.self range c.if-other-node.true

pub returns-in-None-clause-none : goal.returns-in-None-clause-none
returns-in-None-clause-none c =
    let q = c.args.self.now in
    none_found q.order q.places c.args.node q.placed (subst (IsKeyRangeOf placed_cmp (Included (c.args.node, 0)) Unbounded q.places) c.in-None.ensures.steps.0 (c.range.ensures.in_range tt))

pub returns-else-other-node-clause-none : goal.returns-else-other-node-clause-none
returns-else-other-node-clause-none c =
    let q = c.args.self.now in
    let range = subst (IsKeyRangeOf placed_cmp (Included (c.args.node, 0)) Unbounded q.places) c.in-Some.ensures.steps (c.range.ensures.in_range tt) in
    other_found q.order q.places c.args.node q.placed c.in-Some.field-0.now c.next.new.self range c.if-other-node.false
