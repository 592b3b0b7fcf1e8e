-- Messages by the beats at which they arrive.
use Rattle.std.specs.Prelude.{◌≡◌, ℕ, ◌<◌, ◌==◌, nat_lt, Bool, true, false, cond, List, [], ◌∷◌, ◌++◌, Option, Some, None}
use Rattle.std.specs.BTreeMap.{get}
use Rattle.std.specs.List.{list_all}
use Rattle.std.specs.Ordering.{nat_cmp}
use Rattle.std.specs.VecDeque.{deque_items}
use Rattle.std.specs.declared.cmp.Ordering.{Ordering}
use Rattle.kube_base.specs.declared.numbers.Beat.{Beat}
use Rattle.wire_calls.specs.declared.flight.Flight.{Flight}
use Rattle.wire_calls.specs.declared.queues.Queues.{Queues}

abbrev pub beat_cmp : Beat → Beat → Ordering
beat_cmp a b = nat_cmp a.0 b.0

-- what is queued for a beat, the oldest first
abbrev pub queued : {T : Type 0} → Queues T → ℕ → List T
queued queues j = elim (get beat_cmp queues.beats (record { 0 = j })) [ None ↦ [] | Some queue ↦ deque_items queue ]

-- what the front holds for a beat
abbrev pub in_front : {T : Type 0} → Flight T → ℕ → List T
in_front flight j = cond (flight.beat.0 == j) (deque_items flight.front) []

-- what arrives at a beat, the oldest first
abbrev pub pending : {T : Type 0} → Flight T → ℕ → List T
pending flight j = in_front flight j ++ queued flight.others j

-- every message in flight passes a test
abbrev pub AllPass : {T : Type 0} → (T → Bool) → (ℕ → List T) → Type 0
AllPass test at = (j : ℕ) → list_all test (at j) ≡ true

abbrev pub has_any : {T : Type 0} → List T → Bool
has_any [] = false
has_any (x ∷ xs) = true

abbrev pub first_of : {T : Type 0} → List T → Option T
first_of [] = None
first_of (x ∷ xs) = Some x

abbrev pub rest_of : {T : Type 0} → List T → List T
rest_of [] = []
rest_of (x ∷ xs) = xs

-- no queue is kept in which nothing is
abbrev pub HasNoEmpty : {T : Type 0} → Queues T → Type 0
HasNoEmpty queues =
    (j : ℕ) → elim (get beat_cmp queues.beats (record { 0 = j })) [ None ↦ Unit {0} | Some queue ↦ deque_items queue ≡ [] → ⊥ ]

-- the beat of the front has no queue among the others, and none of those is empty
pub record IsLive {T : Type 0} (flight : Flight T) : Type 0 where
  pub apart : queued flight.others flight.beat.0 ≡ []
  pub full : HasNoEmpty flight.others

-- the least beat at which something arrives
abbrev pub IsLeast : {T : Type 0} → (ℕ → List T) → Option Beat → Type 0
IsLeast at None = (j : ℕ) → at j ≡ []
IsLeast at (Some beat) = (at beat.0 ≡ [] → ⊥) × ((j : ℕ) → j < beat.0 → at j ≡ [])

-- the earlier of two beats, where there is one
abbrev pub earlier_of : Option Beat → Option Beat → Option Beat
earlier_of None b = b
earlier_of (Some a) None = Some a
earlier_of (Some a) (Some b) = cond (nat_lt b.0 a.0) (Some b) (Some a)
