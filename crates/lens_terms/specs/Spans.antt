-- The spans in which nobody acts.
use Rattle.std.specs.Prelude.{ℕ, nat_lt, max, List, [], ◌∷◌, ◌++◌, if◌then◌else◌}
use Rattle.lens_terms.specs.declared.span.Span.{Span}
use Rattle.lens_terms.specs.declared.stretch.Stretch.{Stretch}

-- the span between two beats, where there is a beat in it
abbrev pub span : ℕ → ℕ → List Span
span from until = if nat_lt from until then record { from = from; until = until } ∷ [] else []

-- by stretches in the order in which they begin, and a beat before which all earlier ones are over: up to the next one nobody acts, and
-- then not before the later one of both ends
abbrev pub leaderless : {T : Type 0} → ℕ → ℕ → List (Stretch T) → List Span
leaderless since stop [] = span since stop
leaderless since stop (s ∷ more) = span since s.from ++ leaderless (max since s.until) stop more
