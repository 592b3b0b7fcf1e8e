-- The segments that a clock keeps: at each set, the reading from which the clock runs on at the new rate.
use Rattle.std.specs.Prelude.{◌≡◌, ℕ, ◌-◌, ◌<◌, ◌≤◌, List, length, map, reverse, All, slice_index_or}
use Rattle.std.specs.List.Sorted.{IsNonDecreasingBy}
use Rattle.skew_clock.specs.Clocking.{Clocking, reading, last_set, IsRate, IsEpoch, IsOffset, IsSpan}
use Rattle.skew_clock.specs.declared.clock.Segment.{Segment}
use Rattle.skew_clock.specs.declared.clock.Clock.TheInside.{Inside}

abbrev pub set_of : Segment → ℕ × ℕ
set_of s = (s.beat.0, s.ppm)

-- the rates set, newest first
abbrev pub sets_of : List Segment → List (ℕ × ℕ)
sets_of segments = reverse (map set_of segments)

abbrev pub clocking_of : Inside → Clocking
clocking_of a =
    record { epoch = a.epoch.0; offset = a.offset_micros; beat_micros = a.beat_micros; end = a.end.0; sets = sets_of a.segments.items }

-- a segment begins at the clock's reading, no later than the newest set, and runs at a rate in the range
pub record Keeps (c : Clocking) (s : Segment) : Type 0 where
  pub at_reading : s.reading.0 ≡ reading c s.beat.0
  pub within : s.beat.0 ≤ last_set c.sets
  pub in_range : IsRate s.ppm

pub record IsKept (a : Inside) : Type 0 where
  pub some : 0 < length a.segments.items
  pub first : (d : Segment) → (slice_index_or a.segments.items 0 d).beat.0 ≡ 0
  pub ordered : IsNonDecreasingBy (λ s. s.beat.0) a.segments.items
  pub each : All (Keeps (clocking_of a)) a.segments.items
  pub newest : a.last ≡ slice_index_or a.segments.items (length a.segments.items - 1) a.last
  pub last : last_set (sets_of a.segments.items) ≤ a.end.0
  pub epoch : IsEpoch a.epoch.0
  pub offset : IsOffset a.offset_micros
  pub span : IsSpan a.beat_micros a.end.0
