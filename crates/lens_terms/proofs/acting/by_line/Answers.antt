use Rattle.std.proofs.Common.{◌≡◌, [], map, rules, refl, arith}
use Rattle.trace_lines.specs.Reads.{seen}
use Rattle.lens_terms.proofs.StretchLaws.{behind, popped, none-popped, known-behind, found-behind}
use Rattle.lens_terms.proofs.acting.by_line.Goals as goal

pub lines-preserved : goal.lines-preserved
lines-preserved c =
    let lines = c.args.lines.now in
    let at = c.lines.at in
    let stop = c.args.stop in
    let taken = c.in_ok-take.ensures (behind stop (map seen lines) at) c.lines.invariant.known in
    let met = popped stop lines at c.lines.ends.items c.pop.new.self.items c.in-Some.end _ c.lines.invariant.ends_are c.in-Some.ensures.items in
    record {
      within = omega (arith, met.within);
      ends_are = met.ends_are;
      known = known-behind stop lines at c.take.new.self.standings _ _ met.within refl taken.0;
      found = found-behind stop lines at c.in-Some.end c.lines.acting.found.items c.take.new.self.found.items _ _ met.within refl met.end_is taken.1 c.lines.invariant.found;
    }

pub returns : goal.returns
returns c =
    let none : c.lines.ends.items ≡ [] = search rules in
    none-popped c.args.stop c.args.lines.now c.lines.at c.lines.ends.items c.lines.acting.found.items c.lines.invariant.ends_are none c.lines.invariant.found
