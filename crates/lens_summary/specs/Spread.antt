-- How long spans are.
use Rattle.std.specs.Prelude.{ℕ, ◌-◌, List, map, min, sum_by}
use Rattle.lens_summary.specs.Tables.{greatest}
use Rattle.lens_terms.specs.declared.span.Span.{Span}

abbrev pub beats : Span → ℕ
beats s = s.until - s.from

-- the beats of the longest span
abbrev pub longest : List Span → ℕ
longest spans = greatest (map beats spans)

-- the beats of all spans; spans that are apart have at most 604,800,001
abbrev pub total : List Span → ℕ
total spans = min (sum_by beats spans) 4294967295
