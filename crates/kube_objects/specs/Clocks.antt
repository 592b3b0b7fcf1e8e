-- Clocks. A clock's reading at a beat is the sum of what it ran in the beats before. Source: profile.
use Rattle.std.specs.Prelude.{ℕ, ℤ, pos, negsuc, zero, suc, ◌+◌, ◌-◌, ◌*◌, ◌/◌, ◌==◌, nat_le}
use Rattle.std.specs.Prelude.{List, [], ◌∷◌, Option, Some, None}
use Rattle.kube_objects.specs.declared.script.Event.{Event}
use Rattle.kube_objects.specs.declared.script.What.{What}
use Rattle.kube_objects.specs.declared.script.What.TheVariants.{Rate}
use Rattle.kube_objects.specs.Document.{Doc, beat_micros, first_rate, offset_millis}
use Rattle.kube_objects.specs.Newest.{when, only_if, or_else}

abbrev pub rate_of : ℕ → What → Option ℕ
rate_of p (Rate id ppm) = when (id.0 == p) ppm
rate_of p _ = None

-- the rate of the last event on a process's rate at or before a beat
abbrev pub last_rate : ℕ → ℕ → List Event → Option ℕ
last_rate p k [] = None
last_rate p k (e ∷ es) = elim (last_rate p k es) [ None ↦ only_if (nat_le e.beat.0 k) (rate_of p e.what) | Some ppm ↦ Some ppm ]

-- a process's clock rate at a beat, in parts per million
abbrev pub rate : Doc → ℕ → ℕ → ℕ
rate doc p k = or_else (first_rate doc p) (last_rate p k doc.events)

-- a process's reading at a beat, in units of 10^-12 s
abbrev pub local : Doc → ℕ → ℕ → ℕ
local doc p zero = 0
local doc p (suc k) = local doc p k + beat_micros doc * rate doc p k

-- a time in microseconds moved by milliseconds
abbrev pub moved : ℤ → ℕ → ℕ
moved (pos millis) at = at + millis * 1000
moved (negsuc millis) at = at - (millis + 1) * 1000

-- a process's time of day at a beat, in microseconds
abbrev pub wall : Doc → ℕ → ℕ → ℕ
wall doc p k = moved (offset_millis doc p) (doc.settings.epoch.0 + local doc p k / 1000000)

-- the store's time of day at a beat, in microseconds
abbrev pub store_wall : Doc → ℕ → ℕ
store_wall doc k = doc.settings.epoch.0 + k * beat_micros doc

-- the last whole second that isn't after a time of day in microseconds
abbrev pub whole_second : ℕ → ℕ
whole_second at = at / 1000000 * 1000000
