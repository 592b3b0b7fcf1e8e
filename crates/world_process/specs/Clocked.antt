-- A clock that has the rates of a process's events from the start.
use Rattle.std.specs.Prelude.{◌≡◌, ◌≤◌, ℕ, List, Some}
use Rattle.kube_base.specs.Bounds.{most_local}
use Rattle.kube_objects.specs.declared.script.Event.{Event}
use Rattle.kube_objects.specs.declared.script.Proc.{Proc}
use Rattle.kube_objects.specs.declared.settings.Settings.{Settings}
use Rattle.kube_objects.specs.Clocks.{rate, moved}
use Rattle.kube_objects.specs.Document.{Doc, beat_micros, end_beat, offset_millis, process_at}
use Rattle.script_reader.specs.Lawful.{AreLawfulFrom}
use Rattle.skew_clock.specs.Clocking.{Clocking, rate_at, reading, moved as moved_micros}

-- a clock is that of a process of the document, and reads what can be handed in up to its end
pub record ClockStands (doc : Doc) (p : ℕ) (c : Clocking) : Type 0 where
  pub epoch : c.epoch ≡ doc.settings.epoch.0
  pub offset : (at : ℕ) → moved_micros c.offset at ≡ moved (offset_millis doc p) at
  pub micros : c.beat_micros ≡ beat_micros doc
  pub end : c.end ≡ end_beat doc
  pub rates : (j : ℕ) → rate_at c.sets j ≡ rate doc p j
  pub fits : reading c c.end ≤ most_local

-- the events are lawful in a document with this end, none before this beat
abbrev pub AreEventsFrom : ℕ → ℕ → List Event → Type 0
AreEventsFrom end from events = (doc : Doc) × (end_beat doc ≡ end) × AreLawfulFrom doc from events

-- clocks that differ in their rates alone
pub record SameSpan (old new : Clocking) : Type 0 where
  pub epoch : new.epoch ≡ old.epoch
  pub offset : new.offset ≡ old.offset
  pub beat_micros : new.beat_micros ≡ old.beat_micros
  pub end : new.end ≡ old.end

-- what a process is made of is that of process p of the document
pub record IsMadeOf (doc : Doc) (p id : ℕ) (s : Settings) (x : Proc) (es : List Event) : Type 0 where
  pub me : id ≡ p
  pub settings : doc.settings ≡ s
  pub process : process_at doc p ≡ Some x
  pub events : doc.events ≡ es
