-- What `summary` answers: the tables of a trace.
use Rattle.std.specs.Prelude.{ℕ, ◌+◌, ◌++◌, List, [], ◌∷◌, codes, decimal, Option, Some, None}
use Rattle.run_edge.specs.Outcome.{Reply}
use Rattle.run_edge.specs.declared.status.Verdict.TheVariants.{Done}
use Rattle.lens_summary.specs.Cells.{beat_text}
use Rattle.lens_summary.specs.Tables.{Texts, table_text}
use Rattle.lens_terms.specs.declared.stretch.Stretch.{Stretch}
use Rattle.lens_terms.specs.declared.term.Term.{Term}
use Rattle.lens_terms.specs.Acting.{acting}
use Rattle.lens_terms.specs.Terms.{terms}
use Rattle.lens_terms.specs.Together.{overlap, beats_of_two}
use Rattle.lens_trace.specs.LineMembers.{premise_word}
use Rattle.lens_trace.specs.Traces.{trace_reply}
use Rattle.trace_lines.specs.declared.header.Header.{Header}
use Rattle.trace_lines.specs.declared.line.Line.{Line}
use Rattle.lens_summary.specs.Leaders.{term_rows, span_rows}
use Rattle.lens_summary.specs.Part.{part}
use Rattle.lens_summary.specs.Subjects.{subject_rows}
use Rattle.lens_summary.specs.declared.subject.Subject.TheVariants.{Zones, Nodes, Pods}
use Rattle.lens_summary.specs.Totals.{total_rows}

abbrev pub line_text : Option ℕ → List ℕ
line_text None = codes "-"
line_text (Some line) = decimal line

-- the trace itself: the milliseconds of a beat, the last beat, the premise as the writer has it, the line from which on two act, and at how many
-- beats two do
unfoldable pub trace_rows : Header → Option ℕ → ℕ → List Texts
trace_rows header overlap beats =
    (codes "BEAT-MILLIS" ∷ codes "LAST-BEAT" ∷ codes "PREMISE" ∷ codes "TWO-LEAD-FROM-LINE" ∷ codes "TWO-LEAD-BEATS" ∷ [])
    ∷ (decimal header.beat_millis ∷ beat_text header.end header.beat_millis ∷ premise_word header.premise ∷ line_text overlap
    ∷ beat_text beats header.beat_millis ∷ []) ∷ []

-- the line that begins the first stretch in which a leader acts while another one does
abbrev pub line_in : Option (Stretch (List ℕ)) → Option ℕ
line_in None = None
line_in (Some s) = Some s.line

-- the tables of a trace of this first line, by its terms and the stretches in which a leader acts
unfoldable pub told : Header → List (Term (List ℕ)) → List (Stretch (List ℕ)) → List (Line (List ℕ)) → List ℕ
told header ts all ls =
    part (trace_rows header (line_in (overlap all)) (beats_of_two (header.end + 1) all))
    ++ part (term_rows header.beat_millis (header.end + 1) ts)
    ++ part (span_rows header.beat_millis (header.end + 1) all)
    ++ part (subject_rows Zones header.beat_millis ls)
    ++ part (subject_rows Nodes header.beat_millis ls)
    ++ part (subject_rows Pods header.beat_millis ls)
    ++ table_text (total_rows ls)

abbrev pub summary : Header → List (Line (List ℕ)) → Reply
summary header ls = record { verdict = Done; text = told header (terms 2 ls) (acting (header.end + 1) ls) ls }

-- what a text is answered
abbrev pub summary_reply : List ℕ → Reply
summary_reply = trace_reply summary
