use Rattle.std.proofs.Common.{if◌then◌else◌, ap, sym, ◌∙◌}
use Rattle.kube_objects.specs.Judgement.{without_first}
use Rattle.taint_queue.specs.Pushed.{names}
use Rattle.taint_queue.proofs.Numbered.{below_gone, first_gone, holds_none, nodes_of, none_first, placed_without}
use Rattle.taint_queue.proofs.pushes.Pushes.clear.Goals as goal

pub invariant_of-self-in-Some : goal.invariant_of-self-in-Some
invariant_of-self-in-Some c =
    let q = c.args.self.now in
    record {
      below = below_gone q.next q.order c.remove-in-Some.new.self c.in-Some.place q.below c.remove-in-Some.ensures.updates;
      placed =
          placed_without q.order c.remove-in-Some.new.self q.places c.remove-in-Some-2.new.self c.args.node c.in-Some.place q.placed c.in-Some.ensures.there.0 c.remove-in-Some.ensures.updates
          c.remove-in-Some-2.ensures.updates;
      ascends = c.remove-in-Some.ensures.ordered;
    }

pub returns-in-Some-clause-names : goal.returns-in-Some-clause-names
returns-in-Some-clause-names c =
    let q = c.args.self.now in
    ap nodes_of c.remove-in-Some.ensures.entries ∙ first_gone c.in-Some.place c.args.node q.order.entries q.ascends c.in-Some.ensures.there.0 c.in-Some.ensures.there.1
    ∙ sym (ap (λ b. if b then without_first c.args.node (names q) else names q) (sym c.remove.ensures.test ∙ c.if-not-remove.false))

pub returns-in_default-clause-names : goal.returns-in_default-clause-names
returns-in_default-clause-names c =
    let q = c.args.self.now in
    sym (ap (λ b. if b then without_first c.args.node (names q) else names q) (sym c.remove.ensures.test ∙ c.if-not-remove.false)
    ∙ none_first c.args.node (names q) (holds_none c.args.node q.order.entries q.ascends c.in_default.ensures.none))
