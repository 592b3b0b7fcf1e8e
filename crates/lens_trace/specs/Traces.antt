-- What a trace's text is answered, by what is told of traces.
use Rattle.std.specs.Prelude.{ℕ, ◌++◌, List, codes, decimal, filter_map, Option, Some, None}
use Rattle.run_edge.specs.Outcome.{Reply, refusal}
use Rattle.trace_audit.specs.Entries.{lines_of}
use Rattle.trace_audit.specs.Verdict.{verdict}
use Rattle.trace_lines.specs.Forms.{line_of}
use Rattle.trace_lines.specs.Grammar.{cut}
use Rattle.trace_lines.specs.Headers.{header_of}
use Rattle.trace_lines.specs.declared.header.Header.{Header}
use Rattle.trace_lines.specs.declared.line.Line.{Line}
use Rattle.lens_trace.specs.declared.judging.Judged.{Judged}
use Rattle.lens_trace.specs.declared.judging.Judged.TheVariants.{Wrong, IsTrace}
use Rattle.lens_trace.specs.Judged.{judged_by}

-- what is told of a trace of this first line and the lines behind it
abbrev pub Tells : Type 0
Tells = Header → List (Line (List ℕ)) → Reply

-- a wrong line is refused as `audit` does
abbrev pub wrong_line : ℕ → Reply
wrong_line line = refusal 40 (codes "/" ++ decimal line)

abbrev pub answer_by : Tells → Judged → Header → List (Line (List ℕ)) → Reply
answer_by told (Wrong line) header ls = wrong_line line
answer_by told IsTrace header ls = told header ls

abbrev pub answer_behind : Tells → Judged → Option Header → List ℕ → Reply
answer_behind told judged None rest = refusal 40 (codes "/1")
answer_behind told judged (Some header) rest = answer_by told judged header (filter_map line_of (lines_of rest))

abbrev pub answer_to : Tells → Judged → Option (List ℕ × List ℕ) → Reply
answer_to told judged None = refusal 40 (codes "/1")
answer_to told judged (Some parts) = answer_behind told judged (header_of parts.0) parts.1

-- what a text is answered: what is told of the trace that it is, or its refusal
unfoldable pub trace_reply : Tells → List ℕ → Reply
trace_reply told text = answer_to told (judged_by (verdict text)) (cut 10 text)
