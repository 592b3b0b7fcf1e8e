-- The spans that follow a place of a trace: the first of all, and the first of another identity.
use Rattle.std.specs.Prelude.{◌≡◌, ℕ, ◌==◌, not, nat_lt, List, [], ◌∷◌, slice_get, Option, Some, None, if◌then◌else◌}
use Rattle.std.specs.List.{filter}
use Rattle.std.specs.Str.{bytes_eq}
use Rattle.trace_terms.specs.declared.nearest.Nearest.{Nearest}
use Rattle.trace_terms.specs.declared.nearest.Span.{Span}
use Rattle.trace_terms.specs.Terms.{Term}

abbrev pub another_of : Option Span → Option Span → ℕ → Option Span
another_of None other who = None
another_of (Some first) other who = if first.who == who then other else Some first

-- the first span of another identity than the one at a place
abbrev pub another : Nearest → ℕ → Option Span
another near who = another_of near.first near.other who

-- the line of a span that begins before a beat
abbrev pub begun_before : ℕ → Option Span → Option ℕ
begun_before to None = None
begun_before to (Some span) = if nat_lt span.from to then Some span.line else None

-- the terms with a beat
abbrev pub live : List Term → List Term
live ts = filter (λ t. nat_lt t.from t.to) ts

-- the terms of others
abbrev pub others : List ℕ → List Term → List Term
others who ts = filter (λ t. not (bytes_eq who t.actor)) ts

-- a span is a term's, whose identity is known by its place
pub record IsSpan (actors : List (List ℕ)) (span : Span) (t : Term) : Type 0 where
  pub who : slice_get actors span.who ≡ Some t.actor
  pub from : span.from ≡ t.from
  pub line : span.line ≡ t.line

-- a span is that of the first term
abbrev pub IsFirst : List (List ℕ) → List Term → Option Span → Type 0
IsFirst actors [] None = Unit {0}
IsFirst actors [] (Some span) = ⊥
IsFirst actors (t ∷ ts) None = ⊥
IsFirst actors (t ∷ ts) (Some span) = IsSpan actors span t

abbrev pub IsOther : List (List ℕ) → List Term → Option Span → Type 0
IsOther actors [] other = other ≡ None
IsOther actors (t ∷ ts) other = IsFirst actors (others t.actor ts) other

pub record NearestStands (actors : List (List ℕ)) (ts : List Term) (near : Nearest) : Type 0 where
  pub first : IsFirst actors (live ts) near.first
  pub other : IsOther actors (live ts) near.other
