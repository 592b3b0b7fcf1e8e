-- What `summary --json` answers: one object of what stands in `summary`'s tables.
use Rattle.std.specs.Prelude.{ℕ, ◌+◌, List, [], ◌∷◌, length, map, codes, Option, Some, None}
use Rattle.serde_json.specs.Data.{Data, null, number, unsigned}
use Rattle.run_edge.specs.Outcome.{Reply}
use Rattle.run_edge.specs.declared.status.Verdict.TheVariants.{Done}
use Rattle.lens_json.specs.Members.{Named, nat, text, object_of}
use Rattle.lens_json.specs.Parts.{list_of}
use Rattle.lens_summary.specs.Spread.{longest, total}
use Rattle.lens_summary.specs.Summary.{line_in}
use Rattle.lens_summary.specs.declared.subject.Subject.TheVariants.{Zones, Nodes, Pods}
use Rattle.lens_terms.specs.declared.span.Span.{Span}
use Rattle.lens_terms.specs.declared.stretch.Stretch.{Stretch}
use Rattle.lens_terms.specs.declared.term.Term.{Term}
use Rattle.lens_terms.specs.Acting.{acting}
use Rattle.lens_terms.specs.Spans.{leaderless}
use Rattle.lens_terms.specs.Terms.{terms}
use Rattle.lens_terms.specs.Together.{overlap, beats_of_two}
use Rattle.lens_trace.specs.declared.leaders_json.lasting.Lasting.TheVariants.{Told}
use Rattle.lens_trace.specs.LeadersJson.{term_members}
use Rattle.lens_trace.specs.LineMembers.{premise_word}
use Rattle.lens_trace.specs.Objects.{object_reply}
use Rattle.lens_trace.specs.Traces.{trace_reply}
use Rattle.trace_lines.specs.declared.header.Header.{Header}
use Rattle.trace_lines.specs.declared.line.Line.{Line}
use Rattle.lens_summary.specs.FigureLines.{told}
use Rattle.lens_summary.specs.FigureTotals.{totals}

-- ---- the trace itself, its terms, and the spans in which nobody acts

abbrev pub number_if : Option ℕ → Data
number_if None = null
number_if (Some n) = number (unsigned n)

-- the milliseconds of a beat, the last beat, the premise as the writer has it, the line from which on two act, and at how many beats two do
abbrev pub header_members : Header → List ℕ → Option ℕ → ℕ → List Named
header_members header premise overlap beats =
    nat (codes "beatMillis") header.beat_millis ∷ nat (codes "lastBeat") header.end ∷ text (codes "premise") premise
    ∷ (codes "twoLeadFromLine", number_if overlap) ∷ nat (codes "twoLeadBeats") beats ∷ []

-- how many spans there are, the longest, and all together
abbrev pub span_members : List Span → List Named
span_members spans = nat (codes "count") (length spans) ∷ nat (codes "longest") (longest spans) ∷ nat (codes "sum") (total spans) ∷ []

-- ---- the answer

-- by the terms of a trace that ends before the beat `stop`, the stretches in which a leader acts, and the lines
abbrev pub figure_members : Header → ℕ → List (Term (List ℕ)) → List (Stretch (List ℕ)) → List (Line (List ℕ)) → List Named
figure_members header stop ts all ls =
    (codes "header", object_of (header_members header (premise_word header.premise) (line_in (overlap all)) (beats_of_two stop all)))
    ∷ (codes "terms", list_of (map (term_members Told stop) ts)) ∷ (codes "spansWithoutLeader", object_of (span_members (leaderless 0 stop all)))
    ∷ (codes "zones", list_of (told Zones ls)) ∷ (codes "nodes", list_of (told Nodes ls)) ∷ (codes "evictions", list_of (told Pods ls))
    ∷ (codes "totals", list_of (totals ls)) ∷ []

-- on a trace of this first line and these lines behind it
abbrev pub members_on : Header → List (Line (List ℕ)) → List Named
members_on header ls = figure_members header (header.end + 1) (terms 2 ls) (acting (header.end + 1) ls) ls

abbrev pub figures : Header → List (Line (List ℕ)) → Reply
figures header ls = object_reply Done (members_on header ls)

-- what a text is answered
abbrev pub figures_reply : List ℕ → Reply
figures_reply = trace_reply figures
