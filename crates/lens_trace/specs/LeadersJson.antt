-- What `leaders --json` answers: one object of the terms, the spans and the overlap that `leaders` tells.
use Rattle.std.specs.Prelude.{ℕ, ◌+◌, ◌-◌, ◌++◌, List, [], ◌∷◌, codes, map, Option, Some, None}
use Rattle.serde_json.specs.Data.{Data, null}
use Rattle.run_edge.specs.Outcome.{Reply}
use Rattle.run_edge.specs.declared.status.Verdict.{Verdict}
use Rattle.run_edge.specs.declared.status.Verdict.TheVariants.{Safe, Unsafe}
use Rattle.lens_json.specs.Members.{Named, nat, text, object_of}
use Rattle.lens_json.specs.Parts.{list_of}
use Rattle.lens_terms.specs.declared.span.Span.{Span}
use Rattle.lens_terms.specs.declared.stretch.Stretch.{Stretch}
use Rattle.lens_terms.specs.declared.term.Term.{Term}
use Rattle.lens_terms.specs.Acting.{acting}
use Rattle.lens_terms.specs.Spans.{leaderless}
use Rattle.lens_terms.specs.Terms.{ended, terms, until}
use Rattle.lens_terms.specs.Together.{overlap, first, crosses}
use Rattle.lens_trace.specs.declared.leaders_json.lasting.Lasting.{Lasting}
use Rattle.lens_trace.specs.declared.leaders_json.lasting.Lasting.TheVariants.{Told, Untold}
use Rattle.lens_trace.specs.Objects.{object_reply}
use Rattle.lens_trace.specs.Traces.{trace_reply}
use Rattle.trace_lines.specs.declared.header.Header.{Header}
use Rattle.trace_lines.specs.declared.line.Line.{Line}

-- ---- members

-- for how long a term lasted, where that is told
abbrev pub lasted : Lasting → ℕ → List Named
lasted Untold beats = []
lasted Told beats = nat (codes "lasted") beats ∷ []

-- who leads, from which beat, up to before which, and how it ends
abbrev pub term_members : Lasting → ℕ → Term (List ℕ) → List Named
term_members lasting stop t =
    text (codes "leader") t.actor ∷ nat (codes "from") t.from ∷ nat (codes "until") (until stop t)
    ∷ (lasted lasting (until stop t - t.from) ++ text (codes "ended") (ended t.closing) ∷ [])

-- a span in which nobody acts
abbrev pub span_members : Span → List Named
span_members s = nat (codes "from") s.from ∷ nat (codes "until") s.until ∷ []

abbrev pub beside : Option (Stretch (List ℕ)) → List Named
beside None = []
beside (Some other) = text (codes "beside") other.actor ∷ []

-- the first stretch in which a leader acts that begins while another one acts
abbrev pub overlap_members : List (Stretch (List ℕ)) → Stretch (List ℕ) → List Named
overlap_members all s = nat (codes "line") s.line ∷ nat (codes "from") s.from ∷ text (codes "who") s.actor ∷ beside (first (crosses s) all)

abbrev pub overlap_data : List (Stretch (List ℕ)) → Option (Stretch (List ℕ)) → Data
overlap_data all None = null
overlap_data all (Some s) = object_of (overlap_members all s)

-- ---- the answer

abbrev pub leaders_members : ℕ → List (Term (List ℕ)) → List (Stretch (List ℕ)) → List Named
leaders_members stop ts all =
    (codes "terms", list_of (map (term_members Untold stop) ts)) ∷ (codes "nobody", list_of (map span_members (leaderless 0 stop all)))
    ∷ (codes "overlap", overlap_data all (overlap all)) ∷ []

abbrev pub verdict_by : Option (Stretch (List ℕ)) → Verdict
verdict_by None = Safe
verdict_by (Some s) = Unsafe

abbrev pub told : ℕ → List (Term (List ℕ)) → List (Stretch (List ℕ)) → Reply
told stop ts all = object_reply (verdict_by (overlap all)) (leaders_members stop ts all)

-- of a trace of this first line, whose last beat is the one before `end + 1`
abbrev pub leaders : Header → List (Line (List ℕ)) → Reply
leaders header ls = told (header.end + 1) (terms 2 ls) (acting (header.end + 1) ls)

-- what a text is answered
abbrev pub leaders_reply : List ℕ → Reply
leaders_reply = trace_reply leaders
