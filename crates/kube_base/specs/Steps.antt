-- A count of steps that stays at the greatest u64.
use Rattle.std.specs.Prelude.{ℕ, ◌+◌, min}

-- the count after so many further steps
abbrev pub counted : ℕ → ℕ → ℕ
counted count steps = min (count + steps) 18446744073709551615
