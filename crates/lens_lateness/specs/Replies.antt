-- What a document and its trace are answered.
use Rattle.std.specs.Prelude.{ℕ, ◌==◌, ◌++◌, nat_le, List, [], length, codes, Option, Some, None, Result, Ok, Err, if◌then◌else◌}
use Rattle.run_edge.specs.Outcome.{Reply, refusal}
use Rattle.run_edge.specs.declared.status.Verdict.{Verdict}
use Rattle.run_edge.specs.declared.status.Verdict.TheVariants.{Done}
use Rattle.lens_summary.specs.Summary.{summary_reply}
use Rattle.lens_summary.specs.Tables.{Texts, table_text}
use Rattle.manifest_json.specs.declared.fault.Refusal.{Refusal}
use Rattle.script_reader.specs.declared.document.Document.{Document}
use Rattle.script_reader.specs.Walk.{document_walk}
use Rattle.trace_lines.specs.declared.header.Header.{Header}
use Rattle.trace_lines.specs.declared.line.Line.{Line}
use Rattle.lens_lateness.specs.Input.{document_part, trace_part}
use Rattle.lens_lateness.specs.Late.{late_rows}
use Rattle.lens_lateness.specs.Traces.{trace_of}

-- an empty line and a table, where it has a row beside its heading
abbrev pub table_behind : List Texts → List ℕ
table_behind rows = if nat_le (length rows) 1 then [] else codes "\n" ++ table_text rows

-- what is told of a trace, and behind it how late its evictions were; a trace with beats of another length isn't one of this document
abbrev pub behind : Document → List ℕ → Header × List (Line (List ℕ)) → Reply
behind d text trace =
    if trace.0.beat_millis == d.settings.beat_millis then record { verdict = Done; text = text ++ table_behind (late_rows d trace.1) }
    else refusal 44 (codes "/1")

abbrev pub behind_if : Document → Reply → Option (Header × List (Line (List ℕ))) → Reply
behind_if d reply None = reply
behind_if d reply (Some trace) = behind d reply.text trace

-- what `summary` refuses is refused
abbrev pub told_by : Document → List ℕ → Reply → Verdict → Reply
told_by d trace reply Done = behind_if d reply (trace_of trace)
told_by d trace reply _ = reply

abbrev pub told : Document → List ℕ → Reply
told d trace = told_by d trace (summary_reply trace) (summary_reply trace).verdict

abbrev pub found : Result Document Refusal → List ℕ → Reply
found (Ok d) trace = told d trace
found (Err r) trace = refusal r.code r.path

-- what an input is answered: a document and its trace
unfoldable pub lateness_reply : List ℕ → Reply
lateness_reply input = found (document_walk (document_part input)) (trace_part input)
