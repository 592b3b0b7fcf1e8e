-- What `lines --json` answers: each line of a trace as a JSON object on a line of its own.
use Rattle.std.specs.Prelude.{ℕ, ◌++◌, List, codes}
use Rattle.std.specs.List.{flat_map}
use Rattle.serde_json.specs.Written.{compact_text}
use Rattle.run_edge.specs.Outcome.{Reply}
use Rattle.run_edge.specs.declared.status.Verdict.TheVariants.{Done}
use Rattle.lens_json.specs.Members.{object_of}
use Rattle.lens_trace.specs.Traces.{trace_reply}
use Rattle.trace_lines.specs.declared.header.Header.{Header}
use Rattle.trace_lines.specs.declared.line.Line.{Line}
use Rattle.lens_trace.specs.LineMembers.{header_members, line_members}

-- the objects of the first line and of another one, as JSON without spaces
unfoldable pub header_json : Header → List ℕ
header_json header = compact_text (object_of (header_members header))

unfoldable pub line_json : Line (List ℕ) → List ℕ
line_json l = compact_text (object_of (line_members l))

abbrev pub ended : List ℕ → List ℕ
ended line = line ++ codes "\n"

-- the objects of a trace, each ended by a line feed
unfoldable pub told : Header → List (Line (List ℕ)) → List ℕ
told header ls = ended (header_json header) ++ flat_map (λ l. ended (line_json l)) ls

abbrev pub objects : Header → List (Line (List ℕ)) → Reply
objects header ls = record { verdict = Done; text = told header ls }

-- what a text is answered
abbrev pub lines_reply : List ℕ → Reply
lines_reply = trace_reply objects
