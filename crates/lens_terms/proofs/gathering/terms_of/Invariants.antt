use Rattle.std.proofs.Common.{◌≤◌, ◌+◌, length, drop, map}
use Rattle.trace_lines.specs.Reads.{seen}
use Rattle.lens_terms.specs.Gathered.{Stands}
use Rattle.lens_terms.proofs.gathering.terms_of.Given as goal

-- what is known of the lines from the place on
abbrev pub invariant-lines : goal.invariant-lines
invariant-lines l = record {
  within : l.at ≤ length l.fn.lines;
  stands : Stands (l.at + 2) (map seen (drop l.at l.fn.lines)) l.gathering;
}

abbrev pub decreases-lines : goal.decreases-lines
decreases-lines l = l.at
