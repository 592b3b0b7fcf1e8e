use Rattle.std.proofs.Common.{◌≡◌, ◌≤◌, ◌+◌, ◌++◌, length, drop, map, reverse}
use Rattle.trace_lines.specs.Reads.{seen}
use Rattle.lens_terms.specs.Acting as spec
use Rattle.lens_terms.specs.Gathered.{ends, AreHeld}
use Rattle.lens_terms.proofs.StretchLaws.{behind}
use Rattle.lens_terms.proofs.acting.by_line.Given as goal

-- what is known behind the lines before the place, the stretches so far and those of the rest, and the ends of the rest
abbrev pub invariant-lines : goal.invariant-lines
invariant-lines l = record {
  within : l.at ≤ length l.lines;
  ends_are : l.ends.items ≡ reverse (ends l.stop (map seen (drop l.at l.lines)));
  known : AreHeld (behind l.stop (map seen l.lines) l.at) l.acting.standings;
  found : map spec.shown l.acting.found.items ++ spec.stretches l.stop (l.at + 2) (behind l.stop (map seen l.lines) l.at) (map seen (drop l.at l.lines))
      ≡ spec.stretches l.stop 2 spec.nothing_known (map seen l.lines);
}

abbrev pub decreases-lines : goal.decreases-lines
decreases-lines l = length l.ends.items
