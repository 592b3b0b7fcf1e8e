use Rattle.std.proofs.Common.{◌≡◌, ◌+◌, ◌*◌, ◌/◌, suc, subst, arith}
use Rattle.beat_tree.specs.Tidy.{IsFirstBelow}
use Rattle.beat_tree.proofs.tree.next_across.Goals as goal

pub loop-next-preserved : goal.loop-next-preserved
loop-next-preserved c =
    let next = c.loop-next.next in
    let below = c.loop-next.invariant.below in
    let twice : next ≡ 2 * (next / 2) = omega (arith, c.loop-next-test.true) in
    record {
      some = omega (arith, c.loop-next.invariant.some, c.loop-next-test.true);
      below = (suc below.0, subst (IsFirstBelow below.0 (c.args.slot + 1)) twice below.1);
    }

pub returns : goal.returns
returns c = (c.loop-next.invariant.below, (c.loop-next.next / 2, omega (arith, c.loop-next-test.false)))
