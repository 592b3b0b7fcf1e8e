-- What callers keep.
use Rattle.std.specs.Prelude.{ℕ}

-- the greatest reading that is handed in, in 10^-12 s: 23 days. A clock at twice the true rate shows 14 after the longest run.
abbrev pub most_local : ℕ
most_local = 2000000000000000000
