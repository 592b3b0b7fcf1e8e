-- How the two maps of an eviction queue stand to each other.
use Rattle.std.specs.Prelude.{◌≡◌, ℕ, true, ◌||◌, List, is_some}
use Rattle.kube_objects.specs.declared.key.Key.{Key}
use Rattle.kube_objects.specs.declared.pod.Due.{Due}
use Rattle.evict_queue.specs.Changed.{is_time, sets_time}
use Rattle.evict_queue.specs.Held.{due_of, has_entry, room_of}
use Rattle.evict_queue.specs.declared.dues.Dues.{Dues}
use Rattle.evict_queue.specs.declared.timed.Timed.{Timed}

-- the ordered map has just the due times that are kept
abbrev pub InStep : Dues → Timed → Type 0
InStep dues timed = (time : ℕ) (key : Key) → has_entry timed time key ≡ is_time time (due_of dues key)

-- it has these and those of a list
abbrev pub Ahead : Dues → Timed → List (Key × Due) → Type 0
Ahead dues timed pairs = (time : ℕ) (key : Key) → has_entry timed time key ≡ (is_time time (due_of dues key) || sets_time pairs time key)

-- it has these, perhaps some of those of a list, and nothing else
pub record IsWithin (dues : Dues) (timed : Timed) (pairs : List (Key × Due)) : Type 0 where
  pub kept : (time : ℕ) (key : Key) → is_time time (due_of dues key) ≡ true → has_entry timed time key ≡ true
  pub known : (time : ℕ) (key : Key) → has_entry timed time key ≡ true → (is_time time (due_of dues key) || sets_time pairs time key) ≡ true

-- of the due times of a list only those of its rest may be missing
abbrev pub MissesAtMost : Timed → List (Key × Due) → List (Key × Due) → Type 0
MissesAtMost timed pairs rest = (time : ℕ) (key : Key) → sets_time pairs time key ≡ true
    → (has_entry timed time key || sets_time rest time key) ≡ true

-- only for pods of the rest of a list there may be no room
abbrev pub HasRoomsBut : Dues → List (Key × Due) → List (Key × Due) → Type 0
HasRoomsBut dues pairs rest = (time : ℕ) (key : Key) → sets_time pairs time key ≡ true
    → (is_some (room_of dues key) || sets_time rest time key) ≡ true

-- what a list sets another sets too
abbrev pub IsPart : List (Key × Due) → List (Key × Due) → Type 0
IsPart rest pairs = (time : ℕ) (key : Key) → sets_time rest time key ≡ true → sets_time pairs time key ≡ true
