use Rattle.std.proofs.Common.{◌≡◌, ◌+◌, ◌*◌, ℕ, suc, List, [], ◌∷◌, length, length-append, None, sym, ap, ◌∙◌, subst, arith}
use Rattle.beat_tree.specs.Tidy.{beat_at, doubled, earlier}
use Rattle.beat_tree.proofs.Slots.{all_none, none_more}
use Rattle.beat_tree.proofs.tree.BeatTree.new.Goals as goal

pub deeper-preserved : goal.deeper-preserved
deeper-preserved c =
    let inv = c.deeper.invariant in
    record {
      some = omega (arith, inv.some);
      most = omega (arith, c.deeper-test.true, c.requires);
      deep = omega (arith, inv.deep, inv.some);
      power = twice c.deeper.width c.deeper.depth inv.power;
    }
  where
    twice : (width depth : ℕ) → width ≡ doubled depth → width * 2 ≡ doubled (depth + 1)
    twice width depth is =
        let next : suc depth ≡ depth + 1 = omega arith in
        let more : width * 2 ≡ 2 * doubled depth = omega (arith, is) in
        more ∙ ap doubled next

pub loop-slot-preserved : goal.loop-slot-preserved
loop-slot-preserved c =
    let xs = c.loop-slot.slots.items in
    record {
      many = ap (λ ys. length ys) c.in_ok-push.ensures.items ∙ length-append xs (None ∷ []) ∙ ap (λ n. n + 1) c.loop-slot.invariant.many;
      empty = subst (λ ys. (i : ℕ) → beat_at ys i ≡ None) (sym c.in_ok-push.ensures.items) (none_more xs c.loop-slot.invariant.empty);
    }

pub invariant_of-result-clause-long : goal.invariant_of-result-clause-long
invariant_of-result-clause-long c =
    let len = c.loop-slot.slots.ok.0 in
    let many = c.loop-slot.invariant.many in
    let last = c.loop-slot.auto._slot-end in
    omega (arith, len, many, last, c.loop-slot-test.false)

pub invariant_of-result-clause-tidy : goal.invariant_of-result-clause-tidy
invariant_of-result-clause-tidy c = all_none c.loop-slot.slots.items c.loop-slot.invariant.empty

pub returns-clause-empty : goal.returns-clause-empty
returns-clause-empty c = λ i. c.loop-slot.invariant.empty (c.deeper.width + i)
