-- The parts of a step and of a turn, each done on the history by itself. Source: profile.
use Rattle.std.specs.Prelude.{◌≡◌, ◌↔◌, ℕ, ◌==◌, ◌<◌, true, false, List}
use Rattle.kube_objects.specs.declared.script.Event.{Event}
use Rattle.kube_objects.specs.Document.{Doc, processes, is_up_first}
use Rattle.kube_objects.specs.Entry.{Entry, Identity}
use Rattle.kube_objects.specs.Seen.{is_synced}
use Rattle.kube_objects.specs.Tick.{sync, pass, cleaned, tainted, evicted, tick}
use Rattle.history.specs.Steps.{step_one, restart, expire, finish, attempts, elector_turn, ticks, controller_turn, rounds, kubelet_turn}
use Rattle.history_laws.specs.Tails.{Among}

-- nobody starts at first, and the script has no event at this beat
pub record IsUneventful (doc : Doc) (k : ℕ) : Type 0 where
  pub starts : k ≡ 0 → (p : ℕ) → p < processes doc → is_up_first doc p ≡ false
  pub events : (e : Event) → Among e doc.events → (e.beat.0 == k) ≡ false

abbrev pub EventsAddByParts : Type 0
EventsAddByParts = (doc : Doc) (k : ℕ) (h : List Entry) → step_one doc k h ≡ h ↔ IsUneventful doc k

-- each part of an elector's turn adds nothing
pub record IsStillElector (doc : Doc) (k p : ℕ) (h : List Entry) : Type 0 where
  pub restarts : restart doc k p h ≡ h
  pub expires : expire doc k p h ≡ h
  pub finishes : finish doc k p h ≡ h
  pub tries : attempts doc k p h ≡ h

abbrev pub ElectorsAddByParts : Type 0
ElectorsAddByParts = (doc : Doc) (k p : ℕ) (h : List Entry) → elector_turn doc k p h ≡ h ↔ IsStillElector doc k p h

-- neither the elector's part of a controller's turn nor the tick adds something
pub record IsStillController (doc : Doc) (k p : ℕ) (h : List Entry) : Type 0 where
  pub elector : elector_turn doc k p h ≡ h
  pub ticks : ticks doc k p h ≡ h

abbrev pub ControllersAddByParts : Type 0
ControllersAddByParts = (doc : Doc) (k p : ℕ) (h : List Entry) → controller_turn doc k p h ≡ h ↔ IsStillController doc k p h

-- each part of a kubelet's turn adds nothing
pub record IsStillKubelet (doc : Doc) (k p : ℕ) (h : List Entry) : Type 0 where
  pub expires : expire doc k p h ≡ h
  pub rounds : rounds doc k p h ≡ h

abbrev pub KubeletsAddByParts : Type 0
KubeletsAddByParts = (doc : Doc) (k p : ℕ) (h : List Entry) → kubelet_turn doc k p h ≡ h ↔ IsStillKubelet doc k p h

-- each part of a synced tick but for the sync adds nothing
pub record IsStillSynced (doc : Doc) (k : ℕ) (q : Identity) (h : List Entry) : Type 0 where
  pub passes : pass doc k q h ≡ h
  pub cleans : cleaned doc k q h ≡ h
  pub taints : tainted doc k q h ≡ h
  pub evicts : evicted doc k q h ≡ h

pub record IsStillTick (doc : Doc) (k : ℕ) (q : Identity) (h : List Entry) : Type 0 where
  pub syncs : sync doc k q h ≡ h
  pub synced : is_synced q h ≡ true → IsStillSynced doc k q h

abbrev pub TicksAddByParts : Type 0
TicksAddByParts = (doc : Doc) (k : ℕ) (q : Identity) (h : List Entry) → tick doc k q h ≡ h ↔ IsStillTick doc k q h
