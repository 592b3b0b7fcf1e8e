-- Numbers with up to two decimals.
use Rattle.std.specs.Char.{is_ascii_digit}
use Rattle.std.specs.Prelude.{ℕ, ◌+◌, ◌-◌, ◌*◌, ◌==◌, List, [], ◌∷◌, length, Option, Some, None, if◌then◌else◌}
use Rattle.kube_base.specs.Times.{◌>>=◌}
use Rattle.trace_lines.specs.Grammar.{cut, number_onto}

abbrev pub digit : ℕ → Option ℕ
digit byte = if is_ascii_digit byte then Some (byte - 48) else None

-- the hundredths behind a point: of one digit or of two
abbrev pub decimals : List ℕ → Option ℕ
decimals [] = None
decimals (tenths ∷ []) = digit tenths >>= (λ n. Some (10 * n))
decimals (tenths ∷ more ∷ []) = digit tenths >>= (λ n. digit more >>= (λ m. Some (10 * n + m)))
decimals (tenths ∷ more ∷ another ∷ rest) = None

-- digits, of at most 100
abbrev pub whole : List ℕ → Option ℕ
whole text = if length text == 0 then None else number_onto 100 0 text

abbrev pub by_point : List ℕ → Option (List ℕ × List ℕ) → Option ℕ
by_point text None = whole text >>= (λ n. Some (100 * n))
by_point text (Some parts) = whole parts.0 >>= (λ n. decimals parts.1 >>= (λ m. Some (100 * n + m)))

-- the hundredths of a number of at most 100 with no decimals, or with one or two of them behind a point
abbrev pub hundredths : List ℕ → Option ℕ
hundredths text = by_point text (cut 46 text)
