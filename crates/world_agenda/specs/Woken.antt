-- The beats at which processes are woken.
use Rattle.std.specs.Prelude.{◌≡◌, ℕ, max, ◌==◌, ◌&&◌, ◌||◌, ◌<◌, ◌≤◌, nat_le, not, Bool, true, false, List, Option, Some, None}
use Rattle.kube_base.specs.declared.numbers.Beat.{Beat}
use Rattle.kube_objects.specs.Clocks.{local, wall}
use Rattle.kube_objects.specs.Document.{Doc, processes, end_beat, is_controller}
use Rattle.kube_objects.specs.Entry.{Entry}
use Rattle.kube_objects.specs.Newest.{when}
use Rattle.kube_objects.specs.Pauses.{is_paused, resume}
use Rattle.kube_objects.specs.Stalls.{is_stalled}
use Rattle.agenda_laws.specs.Ahead.{IsAhead, IsNextBelow, IsNextTurn}
use Rattle.agenda_laws.specs.Times.{is_early, sooner as soonest}
use Rattle.agenda_laws.specs.Waking as waking
use Rattle.agenda_laws.specs.Waking.{IsAsleep}
use Rattle.skew_clock.specs.Clocking.{Clocking, reading, wall_of}
use Rattle.world_core.specs.declared.wakes.Wakes.{Wakes}
use Rattle.world_core.specs.Waits.{beat_of, reading_of, room_of, starts_now}

-- a beat before the next one is the next one
abbrev pub not_before : ℕ → Option ℕ → Option ℕ
not_before k None = None
not_before k (Some n) = Some (max k n)

-- the beat is the first up to a clock's end at which its time of day has come to this
pub record IsTimeBeat (clock : Clocking) (at : Option ℕ) (b : Option Beat) : Type 0 where
  pub reached : (j : ℕ) → j ≤ clock.end → is_early j (beat_of b) ≡ is_early (wall_of clock j) at
  pub within : (n : ℕ) → beat_of b ≡ Some n → n ≤ clock.end

-- the same of a time of day that counts from a reading on
pub record IsDeleteBeat (clock : Clocking) (w : Wakes) (b : Option Beat) : Type 0 where
  pub reached : (j : ℕ) → j ≤ clock.end → is_early j (beat_of b) ≡ (is_early (wall_of clock j) w.wall || is_early (reading clock j) (room_of w))
  pub within : (n : ℕ) → beat_of b ≡ Some n → n ≤ clock.end

-- the time of day that a process waits for isn't there, or the reading from which on it counts
abbrev pub is_barred : Doc → ℕ → ℕ → Wakes → Bool
is_barred doc j p w = is_early (wall doc p j) w.wall || is_early (local doc p j) (room_of w)

-- the beat is the first up to the end at which the reading or the time of day is there that the process waits for
pub record IsWoken (doc : Doc) (p : ℕ) (w : Wakes) (b : Option Beat) : Type 0 where
  pub reached : (j : ℕ) → j ≤ end_beat doc
      → is_early j (beat_of b) ≡ (is_early (local doc p j) (reading_of w) && is_barred doc j p w)
  pub within : (n : ℕ) → beat_of b ≡ Some n → n ≤ end_beat doc

-- the first beat from beat k to the end at which something is there of what the process waits for, paused or not
pub record IsNextDue (doc : Doc) (k p : ℕ) (w : waking.Wakes) (due : Option ℕ) : Type 0 where
  pub quiet : (j : ℕ) → k ≤ j → j ≤ end_beat doc → is_early j due ≡ true → IsAsleep doc j p w
  pub there : (j : ℕ) → k ≤ j → j ≤ end_beat doc → is_early j due ≡ false → ¬ IsAsleep doc j p w
  pub ahead : (n : ℕ) → due ≡ Some n → IsAhead doc k n

-- the first beat from this one on at which the process isn't paused, where that comes no later than the end
abbrev pub resumed : Doc → ℕ → Option ℕ → Option ℕ
resumed doc p None = None
resumed doc p (Some n) = when (nat_le (resume doc p n) (end_beat doc)) (resume doc p n)

-- neither the process nor the store stands still
abbrev pub is_going : Doc → ℕ → ℕ → Bool
is_going doc k p = not (is_paused doc p k) && not (is_stalled doc k)

-- the first beat from this one to the end at which neither the process nor the store stands still
pub record IsGoing (doc : Doc) (p from : ℕ) (b : Option ℕ) : Type 0 where
  pub held : (j : ℕ) → from ≤ j → j ≤ end_beat doc → is_early j b ≡ true → is_going doc j p ≡ false
  pub goes : (n : ℕ) → b ≡ Some n → (from ≤ n) × (n ≤ end_beat doc) × (is_going doc n p ≡ true)

-- where the process goes on after something is due, the store stands still at this beat; None where it goes
pub record IsStalledFrom (doc : Doc) (p : ℕ) (due stalled : Option ℕ) : Type 0 where
  pub there : (n : ℕ) → stalled ≡ Some n → resumed doc p due ≡ Some n
  pub none : stalled ≡ None → (n : ℕ) → resumed doc p due ≡ Some n → is_stalled doc n ≡ false

-- the process does something in beat k that is there at once: it starts in beat 0, or neither it nor the store stands still
abbrev pub goes_now : Doc → ℕ → ℕ → Wakes → Bool
goes_now doc k p w = w.at_once && ((k == 0) || is_going doc k p)

-- the beat is the first from beat k to the end at which something is there that the process waits for
pub record IsDue (doc : Doc) (k p : ℕ) (w : Wakes) (b : Option Beat) : Type 0 where
  pub reached : (j : ℕ) → k ≤ j → j ≤ end_beat doc
      → is_early j (beat_of b) ≡ (not w.at_once && (is_early (local doc p j) (reading_of w) && is_barred doc j p w))
  pub ahead : (n : ℕ) → beat_of b ≡ Some n → IsAhead doc k n

-- none of the processes below p starts now; where none at all does, this is the next beat but for the turns from p on
pub record IsLooked (doc : Doc) (k p : ℕ) (h : List Entry) (b : Option Beat) : Type 0 where
  pub idle : (i : ℕ) → i < p → starts_now doc k i ≡ false
  pub below : ((i : ℕ) → i < processes doc → starts_now doc k i ≡ false) → IsNextBelow doc k p h (beat_of b)

-- a beat and the process's next turn, the sooner of both
pub record IsWithTurn (doc : Doc) (k p : ℕ) (h : List Entry) (next both : Option ℕ) : Type 0 where
  pub turn : Option ℕ
  pub first : IsNextTurn doc k p h turn
  pub sooner : both ≡ soonest next turn

-- none of the processes from this one on is a controller, or starts in the next beat
pub record OnlyTurns (doc : Doc) (k from : ℕ) : Type 0 where
  pub kubelets : (p : ℕ) → from ≤ p → is_controller doc p ≡ false
  pub idle : (p : ℕ) → from ≤ p → p < processes doc → starts_now doc k p ≡ false
