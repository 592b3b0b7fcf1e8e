-- A bucket that holds many tokens and is full at first. Source: client-go, `flowcontrol`, a client's limit of requests.
use Rattle.std.specs.Prelude.{ℕ, Bool, ◌+◌, ◌-◌, ◌*◌, ◌==◌, ◌||◌, nat_le, if◌then◌else◌}

-- how many tokens it holds at most, 0 being no limit; how many come in 1,000 s; and how much the rate had still to make up at a reading, in
-- 10^-12 s, before it were full: 10^15 for each token that is missing
pub record Allowed : Type 0 where
  pub burst : ℕ
  pub rate : ℕ
  pub owed : ℕ
  pub at : ℕ

abbrev pub allowed : ℕ → ℕ → ℕ → ℕ → Allowed
allowed burst rate owed at = record { burst = burst; rate = rate; owed = owed; at = at }

abbrev pub full : ℕ → ℕ → Allowed
full burst rate = allowed burst rate 0 0

-- what is owed at a reading
abbrev pub owed_at : Allowed → ℕ → ℕ
owed_at a now = a.owed - (now - a.at) * a.rate

-- whether a token is there
abbrev pub has_room : Allowed → ℕ → Bool
has_room a now = (a.burst == 0) || nat_le (owed_at a now + 1000000000000000) (a.burst * 1000000000000000)

-- after a token is taken at a reading
abbrev pub taken : Allowed → ℕ → Allowed
taken a now = if a.burst == 0 then a else allowed a.burst a.rate (owed_at a now + 1000000000000000) now
