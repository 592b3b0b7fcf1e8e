use Rattle.std.proofs.Common.{drop, map, reverse, refl, sym, ap, ◌∙◌, arith}
use Rattle.std.proofs.Math.Seq.{drop-length}
use Rattle.trace_lines.specs.Reads.{seen}
use Rattle.lens_terms.specs.Acting.{interrupted}
use Rattle.lens_terms.specs.Gathered.{ends}
use Rattle.lens_terms.proofs.StretchLaws.{interrupted-none, ends-before, known-before}
use Rattle.lens_terms.proofs.interruptions.ends_of.Goals as goal

pub lines-init : goal.lines-init
lines-init c =
    let lines = c.args.lines.now in
    record {
      within = omega arith;
      known = λ who. c.new-interruptions.ensures c.args.stop who ∙ sym (interrupted-none c.args.stop who.now)
          ∙ ap (λ ls. interrupted c.args.stop who.now (map seen ls)) (sym (drop-length lines));
      ends_are = c.new-found.ensures.items ∙ ap (λ ls. reverse (ends c.args.stop (map seen ls))) (sym (drop-length lines));
    }

pub lines-preserved : goal.lines-preserved
lines-preserved c =
    let lines = c.args.lines.now in
    let known = c.lines.invariant.known in
    let taken = c.in_ok-take.ensures (map seen (drop c.lines.at lines)) known in
    record {
      within = omega (arith, c.lines.invariant.within);
      known = known-before c.args.stop lines c.lines.at c.take.new.self _ _ c.lines.invariant.within c.lines-test.true refl taken;
      ends_are = ends-before c.args.stop lines c.lines.at c.get.result c.lines.interruptions c.lines.found.items c.push.new.self.items _ _ c.lines.invariant.within c.lines-test.true refl
          known c.get.ensures c.lines.invariant.ends_are c.in_ok-push.ensures.items;
    }
