use Rattle.std.proofs.Common.{◌≡◌, ◌++◌, map, drop}
use Rattle.lens_json.specs.Parts.{members_in}
use Rattle.trace_lines.specs.Reads.{seen}
use Rattle.lens_lateness.specs.Figures.{late_objects}
use Rattle.lens_lateness.proofs.figures.objects.late_objects.Given as goal

-- the objects so far and those of the rest
abbrev pub invariant-loop-line : goal.invariant-loop-line
invariant-loop-line l = map members_in l.objects.items ++ late_objects l.timing.document.now (map seen (drop l.line-index l.lines)) ≡ late_objects l.timing.document.now (map seen l.lines)
