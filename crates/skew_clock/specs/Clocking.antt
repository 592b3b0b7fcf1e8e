-- A clock whose rate changes at beats, and its readings. Source: profile.
use Rattle.std.specs.Prelude.{ℕ, ℤ, pos, negsuc, zero, suc, ◌+◌, ◌-◌, ◌*◌, ◌/◌, ◌<◌, ◌≤◌, ◌≤ℤ◌, nat_le, if◌then◌else◌, List, [], ◌∷◌}

-- the time of day at beat 0 before the offset, the offset, and the length of a beat, in microseconds; the last beat;
-- and the rates set so far, newest first, each as its beat and its parts per million
pub record Clocking : Type 0 where
  pub epoch : ℕ
  pub offset : ℤ
  pub beat_micros : ℕ
  pub end : ℕ
  pub sets : List (ℕ × ℕ)

-- the rate at a beat, in parts per million: that of the newest set at or before the beat
abbrev pub rate_at : List (ℕ × ℕ) → ℕ → ℕ
rate_at [] j = 0
rate_at (newest ∷ older) j = if nat_le newest.0 j then newest.1 else rate_at older j

-- the beat of the newest set
abbrev pub last_set : List (ℕ × ℕ) → ℕ
last_set [] = 0
last_set (newest ∷ older) = newest.0

-- the reading at a beat, in units of 10^-12 s: the sum of what the clock ran in the beats before
unfoldable pub reading : Clocking → ℕ → ℕ
reading c zero = 0
reading c (suc k) = reading c k + c.beat_micros * rate_at c.sets k

-- a time moved by an offset, both in microseconds; 0 where it would be before 0
abbrev pub moved : ℤ → ℕ → ℕ
moved (pos micros) at = at + micros
moved (negsuc micros) at = at - (micros + 1)

-- the time of day when the clock shows a reading, in microseconds
abbrev pub wall_when : Clocking → ℕ → ℕ
wall_when c shown = moved c.offset (c.epoch + shown / 1000000)

-- the time of day at a beat, in microseconds
abbrev pub wall_of : Clocking → ℕ → ℕ
wall_of c k = wall_when c (reading c k)

-- k is the first beat, up to the end, at which the clock shows at least this
pub record IsFirst (shows : ℕ → ℕ) (end at k : ℕ) : Type 0 where
  pub within : k ≤ end
  pub reached : at ≤ shows k
  pub before : (j : ℕ) → j < k → shows j < at

-- from half to twice the true rate, in parts per million
abbrev pub IsRate : ℕ → Type 0
IsRate ppm = (500000 ≤ ppm) × (ppm ≤ 2000000)

-- in the years 2000 to 2199, in microseconds
abbrev pub IsEpoch : ℕ → Type 0
IsEpoch epoch = (946684800000000 ≤ epoch) × (epoch < 7258118400000000)

-- at most 365 days either way, in microseconds
abbrev pub IsOffset : ℤ → Type 0
IsOffset offset = (negsuc 31535999999999 ≤ℤ offset) × (offset ≤ℤ pos 31536000000000)

-- beats of at most a second, and seven days of them at most
abbrev pub IsSpan : ℕ → ℕ → Type 0
IsSpan beat_micros end = (0 < beat_micros) × (beat_micros ≤ 1000000) × (end * beat_micros ≤ 604800000000)
