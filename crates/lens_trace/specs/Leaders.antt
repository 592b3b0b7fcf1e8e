-- What `leaders` answers: the terms of a trace, the spans in which nobody acts, and whether two ever act at once.
use Rattle.std.specs.Prelude.{ℕ, ◌+◌, ◌++◌, List, codes, decimal, Option, Some, None}
use Rattle.std.specs.List.{flat_map}
use Rattle.run_edge.specs.Outcome.{Reply}
use Rattle.run_edge.specs.declared.status.Verdict.TheVariants.{Safe, Unsafe}
use Rattle.lens_terms.specs.declared.span.Span.{Span}
use Rattle.lens_terms.specs.declared.stretch.Stretch.{Stretch}
use Rattle.lens_terms.specs.declared.term.Term.{Term}
use Rattle.lens_terms.specs.Acting.{acting}
use Rattle.lens_terms.specs.Spans.{leaderless}
use Rattle.lens_terms.specs.Terms.{ended, terms, until}
use Rattle.lens_terms.specs.Together.{overlap, first, crosses}
use Rattle.lens_trace.specs.Traces.{trace_reply}
use Rattle.trace_lines.specs.declared.header.Header.{Header}
use Rattle.trace_lines.specs.declared.line.Line.{Line}

-- ---- lines

-- who leads, from which beat, up to before which, and how it ends
unfoldable pub term_line : ℕ → Term (List ℕ) → List ℕ
term_line stop t =
    t.actor ++ codes " from=" ++ decimal t.from ++ codes " until=" ++ decimal (until stop t) ++ codes " ended=" ++ ended t.closing ++ codes "\n"

-- a span in which nobody acts
unfoldable pub span_line : Span → List ℕ
span_line s = codes "nobody from=" ++ decimal s.from ++ codes " until=" ++ decimal s.until ++ codes "\n"

abbrev pub beside_text : Option (Stretch (List ℕ)) → List ℕ
beside_text None = codes "\n"
beside_text (Some other) = codes " beside=" ++ other.actor ++ codes "\n"

-- the first stretch in which a leader acts that begins while another one acts: the line that begins it, its first beat, who acts, and beside whom
unfoldable pub overlap_line : List (Stretch (List ℕ)) → Stretch (List ℕ) → List ℕ
overlap_line all s =
    codes "overlap line=" ++ decimal s.line ++ codes " from=" ++ decimal s.from ++ codes " who=" ++ s.actor ++ beside_text (first (crosses s) all)

-- ---- the answer

-- each term, and each span in which nobody acts
unfoldable pub told_terms : ℕ → List (Term (List ℕ)) → List (Stretch (List ℕ)) → List ℕ
told_terms stop ts all = flat_map (term_line stop) ts ++ flat_map span_line (leaderless 0 stop all)

-- lines and the last one behind them, by where two act at once
abbrev pub judged : List ℕ → List (Stretch (List ℕ)) → Option (Stretch (List ℕ)) → Reply
judged lines all (Some s) = record { verdict = Unsafe; text = lines ++ overlap_line all s }
judged lines all None = record { verdict = Safe; text = lines ++ codes "one at a time\n" }

-- of a trace that ends before the beat `stop`
abbrev pub told : ℕ → List (Term (List ℕ)) → List (Stretch (List ℕ)) → Reply
told stop ts all = judged (told_terms stop ts all) all (overlap all)

-- of a trace of this first line, whose last beat is the one before `end + 1`
abbrev pub leaders : Header → List (Line (List ℕ)) → Reply
leaders header ls = told (header.end + 1) (terms 2 ls) (acting (header.end + 1) ls)

-- what a text is answered
abbrev pub leaders_reply : List ℕ → Reply
leaders_reply = trace_reply leaders
