-- A tournament tree in slots: the slots 2 * i + 1 and 2 * i + 2 stand below slot i.
use Rattle.std.specs.Prelude.{◌≡◌, ◌≢◌, ℕ, ◌+◌, ◌*◌, List, Option, slice_get}
use Rattle.taint_queue.specs.Order.{earliest}
use Rattle.taint_queue.specs.declared.waiting.Waiting.{Waiting}

-- the earliest of a slot's own node and of the earliest ones of the two slots below it
abbrev pub best : List Waiting → List Waiting → ℕ → Option Waiting
best waiting least i = earliest (earliest (slice_get waiting i) (slice_get least (2 * i + 1))) (slice_get least (2 * i + 2))

-- each slot has its earliest
abbrev pub IsTidy : List Waiting → List Waiting → Type 0
IsTidy waiting least = (i : ℕ) → slice_get least i ≡ best waiting least i

-- each slot but one has
abbrev pub IsTidyBut : List Waiting → List Waiting → ℕ → Type 0
IsTidyBut waiting least but = (i : ℕ) → i ≢ but → slice_get least i ≡ best waiting least i
