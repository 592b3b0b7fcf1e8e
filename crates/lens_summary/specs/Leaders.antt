-- Who leads, and when nobody acts.
use Rattle.std.specs.Prelude.{ℕ, ◌-◌, List, [], ◌∷◌, length, map, codes, decimal}
use Rattle.lens_summary.specs.Cells.{beat_text}
use Rattle.lens_summary.specs.Tables.{Texts}
use Rattle.lens_terms.specs.declared.span.Span.{Span}
use Rattle.lens_terms.specs.declared.stretch.Stretch.{Stretch}
use Rattle.lens_terms.specs.declared.term.Term.{Term}
use Rattle.lens_terms.specs.Spans.{leaderless}
use Rattle.lens_terms.specs.Terms.{ended, until}
use Rattle.lens_summary.specs.Spread.{longest, total}

-- who leads, from which beat, up to before which, for how long, and how it ends
abbrev pub term_row : ℕ → ℕ → Term (List ℕ) → Texts
term_row millis stop t =
    t.actor ∷ beat_text t.from millis ∷ beat_text (until stop t) millis ∷ beat_text (until stop t - t.from) millis ∷ ended t.closing ∷ []

-- the terms of a trace that ends before the beat `stop`
unfoldable pub term_rows : ℕ → ℕ → List (Term (List ℕ)) → List Texts
term_rows millis stop ts = (codes "LEADER" ∷ codes "FROM" ∷ codes "UNTIL" ∷ codes "LASTED" ∷ codes "ENDED" ∷ []) ∷ map (term_row millis stop) ts

abbrev pub span_row : ℕ → List Span → Texts
span_row millis spans = decimal (length spans) ∷ beat_text (longest spans) millis ∷ beat_text (total spans) millis ∷ []

-- the spans in which nobody acts: how many, the longest, and all together
unfoldable pub span_rows : {T : Type 0} → ℕ → ℕ → List (Stretch T) → List Texts
span_rows millis stop all = (codes "SPANS-WITHOUT-LEADER" ∷ codes "LONGEST" ∷ codes "SUM" ∷ []) ∷ span_row millis (leaderless 0 stop all) ∷ []
