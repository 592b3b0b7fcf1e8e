-- When the attempt after a failed one comes, as arithmetic on readings.
-- Source: client-go 1.20, `leaderelection.go`: `acquire` waits by `wait.JitterUntil`; `renew` tries again by `wait.PollImmediateUntil`; in
-- 0.36 at the ticks of a ticker, which keeps a tick that comes while an attempt runs.
use Rattle.std.specs.Prelude.{ℕ, ◌+◌, ◌-◌, ◌*◌, ◌/◌, ◌%◌, nat_lt, if◌then◌else◌, List, length, slice_get}
use Rattle.kube_objects.specs.Newest.{or_else}

-- the wait after a failure of a candidate that has failed so often before: the waits come in turn, in thousandths of a period
abbrev pub wait_after : (period : ℕ) (waits : List ℕ) (failures : ℕ) → ℕ
wait_after period waits failures = period * or_else 1000 (slice_get waits (failures % length waits)) / 1000

-- the points of a grid stand one period apart, the first one period after its origin

-- the last point up to a reading, or the origin
abbrev pub last_point : (origin period now : ℕ) → ℕ
last_point origin period now = origin + (now - origin) / period * period

-- the least point later than a reading
abbrev pub next_point : (origin period now : ℕ) → ℕ
next_point origin period now = last_point origin period now + period

-- at once where a point has come since the attempt began, else at the next one
abbrev pub next_tick : (origin period began now : ℕ) → ℕ
next_tick origin period began now = if nat_lt began (last_point origin period now) then now else next_point origin period now
