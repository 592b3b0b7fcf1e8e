use Rattle.std.proofs.Common.{◌≡◌, ◌++◌, map, drop}
use Rattle.lens_json.specs.Parts.{members_in}
use Rattle.trace_lines.specs.Reads.{seen}
use Rattle.lens_summary.specs.FigureLines.{told}
use Rattle.lens_summary.proofs.figures.lines.objects_in.Given as goal

-- the objects so far and those of the rest
abbrev pub invariant-loop-line : goal.invariant-loop-line
invariant-loop-line l = map members_in l.objects.items ++ told l.subject (map seen (drop l.line-index l.lines)) ≡ told l.subject (map seen l.lines)
