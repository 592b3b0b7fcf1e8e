-- A trace as its first line and what the others say.
use Rattle.std.specs.Prelude.{ℕ, List, map, filter_map, Option, Some, None}
use Rattle.kube_base.specs.Times.{◌>>=◌}
use Rattle.trace_audit.specs.Entries.{lines_of}
use Rattle.trace_lines.specs.Forms.{line_of}
use Rattle.trace_lines.specs.Grammar.{cut}
use Rattle.trace_lines.specs.Headers.{header_of}
use Rattle.trace_lines.specs.Reads.{seen}
use Rattle.trace_lines.specs.declared.header.Header.{Header}
use Rattle.trace_lines.specs.declared.line.Line.{Line}
use Rattle.lens_lateness.specs.declared.trace.Trace.{Trace}

-- the first line of a text, and what those behind it say that are of a form
unfoldable pub trace_of : List ℕ → Option (Header × List (Line (List ℕ)))
trace_of text = do
  parts ← cut 10 text
  header ← header_of parts.0
  Some (header, filter_map line_of (lines_of parts.1))

-- the same, of a trace that was read
abbrev pub seen_in : Option Trace → Option (Header × List (Line (List ℕ)))
seen_in None = None
seen_in (Some trace) = Some (trace.header, map seen trace.lines.items)
