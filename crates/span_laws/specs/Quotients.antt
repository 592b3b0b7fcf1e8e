-- The same bounds as quotients, as a program finds them.
use Rattle.std.specs.Int.{div_ceil}
use Rattle.std.specs.Prelude.{ℕ, zero, suc, ◌+◌, ◌*◌, ◌/◌, ◌≤◌, min, max}
use Rattle.span_laws.specs.Spans.{IsEnough, IsNeeded}
use Rattle.span_laws.specs.Looks.{IsAtMost, IsAtLeast, IsGreatest}

-- until a look finds a time over that so many beats are enough for, at most
abbrev pub most_beats : ℕ → ℕ → ℕ → ℕ
most_beats near far zero = 0
most_beats near far (suc last) = min ((last / near + 1) * far) (last + far)

-- and at least, where so many are needed
abbrev pub least_beats : ℕ → ℕ → ℕ → ℕ
least_beats near far needed = max needed (div_ceil needed far * near)

-- a time at a speed rounded up is enough, and needed
abbrev pub RoundedUp : Type 0
RoundedUp = (speed time : ℕ) → 1 ≤ speed → IsEnough speed time (div_ceil time speed) × IsNeeded speed time (div_ceil time speed)

-- both bounds on looks are the exact ones
abbrev pub BoundsAreExact : Type 0
BoundsAreExact =
    (near far beats : ℕ)
    → (1 ≤ near → IsAtMost near far beats (most_beats near far beats) × IsGreatest near far beats (most_beats near far beats))
    × (1 ≤ far → IsAtLeast near far beats (least_beats near far beats) × ((n : ℕ) → IsAtLeast near far beats n → least_beats near far beats ≤ n))
