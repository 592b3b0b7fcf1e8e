-- What a process of the world waits for, and the beats at which it is there.
use Rattle.std.specs.Prelude.{◌≡◌, ◌↔◌, ℕ, ◌==◌, ◌&&◌, ◌||◌, ◌<◌, ◌≤◌, not, Bool, true, false, List, Option, Some, None, IfSome, IfNone, option_map}
use Rattle.kube_base.specs.declared.numbers.Beat.{Beat}
use Rattle.kube_base.specs.declared.numbers.Local.{Local}
use Rattle.kube_base.specs.declared.numbers.ProcId.{ProcId}
use Rattle.kube_objects.specs.Clocks.{local, wall}
use Rattle.kube_objects.specs.Document.{Doc, end_beat, is_controller, is_up_first, processes}
use Rattle.kube_objects.specs.Elector.{leads_on}
use Rattle.kube_objects.specs.Entry.{Entry, Identity}
use Rattle.kube_objects.specs.Newest.{only_if}
use Rattle.kube_objects.specs.Pauses.{is_paused}
use Rattle.kube_objects.specs.Process.{alive}
use Rattle.agenda_laws.specs.Ticking.{room_at, sync_at, synced_reading, term_time}
use Rattle.agenda_laws.specs.Times.{is_early, sooner, if_up}
use Rattle.agenda_laws.specs.Waking.{IsAsleep, acts_as, wakes_of}
use Rattle.controller_core.specs.Working.{kept}
use Rattle.world_process.specs.Beats.{own_reading}
use Rattle.world_process.specs.Moves.{own_turn}
use Rattle.world_core.specs.declared.wakes.Wakes.{Wakes}

abbrev pub local_of : Option Local → Option ℕ
local_of = option_map (λ at. at.0)

abbrev pub reading_of : Wakes → Option ℕ
reading_of w = local_of w.local

abbrev pub room_of : Wakes → Option ℕ
room_of w = local_of w.room

abbrev pub beat_of : Option Beat → Option ℕ
beat_of = option_map (λ beat. beat.0)

-- a turn but for its tick; a process that is paused has none
abbrev pub turn_if : Doc → ℕ → ℕ → Bool → List Entry → List Entry
turn_if doc k p true h = own_turn doc k p h
turn_if doc k p false h = h

abbrev pub awake_turn : Doc → ℕ → ℕ → List Entry → List Entry
awake_turn doc k p h = turn_if doc k p (not (is_paused doc p k)) h

-- the process starts in beat 0, which is the next beat
abbrev pub starts_now : Doc → ℕ → ℕ → Bool
starts_now doc k p = (k == 0) && is_up_first doc p

-- nothing that is waited for is there at beat j
pub record IsAsleepBy (doc : Doc) (j p : ℕ) (w : Wakes) : Type 0 where
  pub at_once : w.at_once ≡ false
  pub wall : (is_early (wall doc p j) w.wall || is_early (local doc p j) (room_of w)) ≡ true
  pub local : is_early (local doc p j) (reading_of w) ≡ true

-- ---- k is the next beat: a controller whose term isn't over at it, or that acts in its release, waits for its term too

-- a reading that no clock comes to is kept as the greatest u64
abbrev pub kept_reading : Doc → Identity → List Entry → Option ℕ
kept_reading doc q h = sooner (sync_at doc q h) (option_map kept (synced_reading doc q h))

abbrev pub acting_reading : Doc → ℕ → ℕ → Bool → List Entry → Option ℕ
acting_reading doc k p true h = if_up p (λ q. only_if (leads_on doc.settings.rules.release doc q k h) (kept_reading doc q h)) (alive p h)
acting_reading doc k p false h = None

abbrev pub acting_time : Doc → ℕ → ℕ → Bool → List Entry → Option ℕ
acting_time doc k p true h = if_up p (λ q. only_if (leads_on doc.settings.rules.release doc q k h) (term_time doc q h)) (alive p h)
acting_time doc k p false h = None

abbrev pub acting_room : Doc → ℕ → ℕ → Bool → List Entry → Option ℕ
acting_room doc k p true h = if_up p (λ q. only_if (leads_on doc.settings.rules.release doc q k h) (room_at doc q h)) (alive p h)
acting_room doc k p false h = None

-- the least reading from which on the turn adds an entry for another cause than a sync that is due at once, an untaint, a swap or a delete
abbrev pub reading_at : Doc → ℕ → ℕ → List Entry → Option ℕ
reading_at doc k p h = sooner (own_reading doc p h) (acting_reading doc k p (is_controller doc p) h)

-- the least due of the pods of an acting controller
abbrev pub time_at : Doc → ℕ → ℕ → List Entry → Option ℕ
time_at doc k p h = acting_time doc k p (is_controller doc p) h

-- the reading from which on the limit lets an acting controller delete one of them
abbrev pub allowed_at : Doc → ℕ → ℕ → List Entry → Option ℕ
allowed_at doc k p h = acting_room doc k p (is_controller doc p) h

-- There at once: a start in beat 0, or a sync where none waits, an untaint or a swap of a controller that acts at the next beat. Who doesn't start
-- waits for this reading and this time of day, which counts from another reading on, and sleeps at the beats from k on exactly as the history says
pub record WakesStand (doc : Doc) (k p : ℕ) (h : List Entry) (w : Wakes) : Type 0 where
  pub at_once : w.at_once ≡ (starts_now doc k p || acts_as doc k p (is_controller doc p) h)
  pub reading : starts_now doc k p ≡ false → reading_of w ≡ reading_at doc k p h
  pub time : starts_now doc k p ≡ false → w.wall ≡ time_at doc k p h
  pub room : starts_now doc k p ≡ false → (j : ℕ) → k ≤ j → is_early (local doc p j) (room_of w) ≡ is_early (local doc p j) (allowed_at doc k p h)
  pub asleep : starts_now doc k p ≡ false → (j : ℕ) → k ≤ j → j ≤ end_beat doc → IsAsleepBy doc j p w ↔ IsAsleep doc j p (wakes_of doc p h)

-- who doesn't tick waits for this reading
pub record TurnWakesStand (doc : Doc) (p : ℕ) (h : List Entry) (w : Wakes) : Type 0 where
  pub at_once : w.at_once ≡ false
  pub reading : reading_of w ≡ own_reading doc p h
  pub time : w.wall ≡ None
  pub room : w.room ≡ None

-- the beat is the first up to the end at which a process's clock has the reading that is waited for
pub record IsTurnBeat (doc : Doc) (p : ℕ) (w : Wakes) (b : Option Beat) : Type 0 where
  pub reached : (j : ℕ) → j ≤ end_beat doc → is_early j (beat_of b) ≡ is_early (local doc p j) (reading_of w)
  pub within : (n : ℕ) → beat_of b ≡ Some n → n ≤ end_beat doc

-- ---- whose turn comes first, pauses and ticks aside

-- up to the end the reading isn't there before a beat that the process's turn waits for; None comes after all beats
abbrev pub WaitsUntil : Doc → ℕ → List Entry → Option ℕ → Type 0
WaitsUntil doc p h before =
    (j : ℕ) → j ≤ end_beat doc → is_early j before ≡ true → is_early (local doc p j) (own_reading doc p h) ≡ true

-- the process comes before the one that was found
abbrev pub IsPassed : ℕ → Option ProcId → Type 0
IsPassed p None = Unit {0}
IsPassed p (Some who) = p < who.0

-- the first process from one on whose turn comes before a beat; none exactly where there is none
pub record IsFirstTurn (doc : Doc) (from : ℕ) (before : Option ℕ) (h : List Entry) (found : Option ProcId) : Type 0 where
  pub there : IfSome found (λ who. ¬ WaitsUntil doc who.0 h before)
  pub passed : (p : ℕ) → from ≤ p → p < processes doc → IsPassed p found → WaitsUntil doc p h before

-- a process before whose turn no other's comes; none exactly where none comes up to the end
pub record IsLeastTurn (doc : Doc) (h : List Entry) (found : Option ProcId) : Type 0 where
  pub there : IfSome found (λ who. ¬ WaitsUntil doc who.0 h None)
  pub least : IfSome found (λ who. (p : ℕ) → p < processes doc → (j : ℕ) → j ≤ end_beat doc
      → is_early (local doc who.0 j) (own_reading doc who.0 h) ≡ true → is_early (local doc p j) (own_reading doc p h) ≡ true)
  pub none : IfNone found ((p : ℕ) → p < processes doc → WaitsUntil doc p h None)
