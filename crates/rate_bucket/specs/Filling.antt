-- A bucket that holds at most one token, and when the token is there.
-- Profile: a bucket that starts empty is empty at each change of its rate. The node lifecycle controller of Kubernetes limits evictions by a
-- token bucket of one token as well, which is full at first.
use Rattle.std.specs.Prelude.{ℕ, Bool, true, false, ◌-◌, ◌*◌, ◌==◌, ◌&&◌, ◌||◌, not, nat_le, if◌then◌else◌}

-- a bucket: how many tokens come in 1,000 s; the reading, in 10^-12 s, of the latest of its start, the last change of its rate, and its last
-- token; and whether it was full then
pub record Filling : Type 0 where
  pub rate : ℕ
  pub base : ℕ
  pub full : Bool

abbrev pub filling : ℕ → ℕ → Bool → Filling
filling rate base full = record { rate = rate; base = base; full = full }

abbrev pub empty_at : ℕ → ℕ → Filling
empty_at rate base = filling rate base false

abbrev pub filled_at : ℕ → ℕ → Filling
filled_at rate base = filling rate base true

-- the rate, times the time since the base, has made up 1,000 s, which are 10^15 units
abbrev pub is_made_up : Filling → ℕ → Bool
is_made_up bucket now = nat_le 1000000000000000 ((now - bucket.base) * bucket.rate)

-- whether the token is there at a reading: there is a rate, and the bucket was full at its base or has filled since
abbrev pub has_token : Filling → ℕ → Bool
has_token bucket now = not (bucket.rate == 0) && (bucket.full || is_made_up bucket now)

-- after the rate is set at this reading, where a new rate empties
abbrev pub swapped : Filling → ℕ → ℕ → Filling
swapped bucket rate now = if bucket.rate == rate then bucket else empty_at rate now

-- and where a token that is there stays
abbrev pub carried : Filling → ℕ → ℕ → Filling
carried bucket rate now = if bucket.rate == rate then bucket else filling rate now (has_token bucket now)

-- after an attempt at this reading that took the token or didn't
abbrev pub after_attempt : Filling → ℕ → Bool → Filling
after_attempt bucket now taken = if taken then empty_at bucket.rate now else bucket
