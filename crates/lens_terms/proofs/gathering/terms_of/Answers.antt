use Rattle.std.proofs.Common.{◌≡◌, ◌+◌, ◌-◌, length, drop, map, reverse, refl, sym, subst, arith}
use Rattle.std.proofs.Math.Seq.{drop-length}
use Rattle.trace_lines.specs.Reads.{seen}
use Rattle.lens_terms.specs.Gathered.{Stands}
use Rattle.lens_terms.specs.Terms.{shown, terms}
use Rattle.lens_terms.proofs.TermLaws.{stands-before, stands-none, all-terms, where-ok}
use Rattle.lens_terms.proofs.gathering.terms_of.Goals as goal

pub lines-init : goal.lines-init
lines-init c =
    let lines = c.args.lines.now in
    record {
      within = omega arith;
      stands = subst (λ ls. Stands (length lines + 2) (map seen ls) (record { closings = c.new.result; terms = c.new-2.result })) (sym (drop-length lines))
          (stands-none (length lines + 2) (record { closings = c.new.result; terms = c.new-2.result }) c.new.ensures c.new-2.ensures.items);
    }

pub lines-preserved : goal.lines-preserved
lines-preserved c =
    let lines = c.args.lines.now in
    let place = c.lines.at - 1 in
    let behind = map seen (drop c.lines.at lines) in
    let before : Stands (place + 2 + 1) behind c.lines.gathering = subst (λ n. Stands n behind c.lines.gathering) (omega (arith, c.lines-test.true)) c.lines.invariant.stands in
    record {
      within = omega (arith, c.lines.invariant.within);
      stands = stands-before lines c.lines.at (place + 2) c.take.new.self _ _ c.lines.invariant.within c.lines-test.true (c.in_ok-take.ensures behind before) refl;
    }

pub returns : goal.returns
returns c =
    where-ok c.reversed.result (λ turned. turned.items ≡ reverse c.lines.gathering.terms.items) (λ turned. map shown turned.items ≡ terms 2 (map seen c.args.lines.now))
    (λ turned is. all-terms c.args.lines.now c.lines.at c.lines.gathering turned.items (omega (arith, c.lines-test.false)) c.lines.invariant.stands is) c.reversed.ensures
