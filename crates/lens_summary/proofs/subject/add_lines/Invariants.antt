use Rattle.std.proofs.Common.{◌≡◌, ◌++◌, map, drop}
use Rattle.lens_summary.specs.Tables.{shown}
use Rattle.trace_lines.specs.Reads.{seen}
use Rattle.lens_summary.specs.Subjects.{told}
use Rattle.lens_summary.proofs.subject.add_lines.Given as goal

-- the rows so far and those of the rest
abbrev pub invariant-loop-line : goal.invariant-loop-line
invariant-loop-line l =
    shown l.rows.items ++ told l.subject l.millis (map seen (drop l.line-index l.lines)) ≡ shown l.fn.rows.items ++ told l.subject l.millis (map seen l.lines)
