use Rattle.std.proofs.Common.{◌≡◌, ◌++◌, length, map, filter_map}
use Rattle.trace_audit.specs.Entries.{lines_of}
use Rattle.trace_lines.specs.Forms.{line_of}
use Rattle.trace_lines.specs.Reads.{seen}
use Rattle.lens_trace.proofs.reading.read_lines.Given as goal

-- the lines so far and those of the rest
abbrev pub invariant-lines : goal.invariant-lines
invariant-lines l = map seen l.lines.items ++ filter_map line_of (lines_of l.rest) ≡ filter_map line_of (lines_of l.fn.text)

abbrev pub decreases-lines : goal.decreases-lines
decreases-lines l = length l.rest
