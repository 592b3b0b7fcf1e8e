-- What a process did, against the history: i is its incarnation after it, and Stands is what it stands for.
use Rattle.std.specs.Prelude.{◌≡◌, ℕ, ◌++◌, not, Bool, true, false, List, ◌∷◌, Option, Some, None, option_map}
use Rattle.kube_base.specs.declared.numbers.ProcId.{ProcId}
use Rattle.kube_base.specs.declared.numbers.Version.{Version}
use Rattle.kube_objects.specs.declared.call.Ask.{Ask}
use Rattle.kube_objects.specs.declared.deed.Act.TheVariants as act
use Rattle.kube_objects.specs.declared.deed.Deed.{Deed}
use Rattle.kube_objects.specs.declared.script.What.TheVariants as what
use Rattle.kube_objects.specs.Document.{Doc, is_controller}
use Rattle.kube_objects.specs.Entry.{Entry, Identity, Call, Fact, Event as Happens, Delivers, entry, script_entry, actor_of}
use Rattle.kube_objects.specs.Identities.{identity}
use Rattle.kube_objects.specs.Newest.{when}
use Rattle.kube_objects.specs.Wire.{Back}
use Rattle.history.specs.Printed.{printed, deeds_of}
use Rattle.history.specs.Steps.{happens, restart, expire, finish, delivered, elector_turn, kubelet_turn, ticks}
use Rattle.leader_elector.specs.Moves.{Asked}
use Rattle.object_store.specs.declared.store.Store.{Store}
use Rattle.object_store.specs.Stands.{StoreStands}
use Rattle.world_process.specs.declared.moves.Received.{Received}
use Rattle.world_process.specs.declared.moves.Stopped.{Stopped}
use Rattle.world_process.specs.declared.moves.Turn.{Turn}
use Rattle.world_process.specs.Plain.{AreQuiet, with_facts}

-- next is the history with what is asked; h is that before
abbrev pub AsksOn : Doc → ℕ → ℕ → Identity → List Entry → List Entry → (List Entry → Type 0) → Option Ask → Type 0
AsksOn doc k step q h next Stands None = (next ≡ h) × Stands h
AsksOn doc k step q h next Stands (Some ask) = Asked doc k step q h next Stands ask

-- before it asks, some quiet entries are added
pub record AsksIn (doc : Doc) (k step : ℕ) (q : Identity) (h next : List Entry) (Stands : List Entry → Type 0) (ask : Option Ask) : Type 0 where
  pub facts : List Fact
  pub quiet : AreQuiet facts
  pub asks : AsksOn doc k step q (with_facts k step q facts h) next Stands ask

-- ---- the script's events on a process

abbrev pub started_deeds : ℕ → Identity → Bool → List Deed
started_deeds k q b = deeds_of k (actor_of q) (when b act.Start)

abbrev pub crashed_deeds : ℕ → Identity → Bool → List Deed
crashed_deeds k q b = deeds_of k (actor_of q) (when b act.Crash)

abbrev pub stopped_deeds : ℕ → Identity → Bool → List Deed
stopped_deeds k q b = deeds_of k (actor_of q) (when b act.Stop)

-- a process was crashed, where it was up
pub record Crashed (doc : Doc) (k : ℕ) (id : ProcId) (h : List Entry) (i : ℕ) (Stands : List Entry → Type 0) (crashed : Bool) : Type 0 where
  pub stands : Stands (happens doc k (what.Crash id) h)
  pub told : printed (happens doc k (what.Crash id) h) ≡ printed h ++ crashed_deeds k (identity id.0 i) crashed

-- a process was started, where it was down
pub record Begun (doc : Doc) (k : ℕ) (id : ProcId) (h : List Entry) (i : ℕ) (Stands : List Entry → Type 0) (started : Bool) : Type 0 where
  pub stands : Stands (happens doc k (what.Start id) h)
  pub told : printed (happens doc k (what.Start id) h) ≡ printed h ++ started_deeds k (identity id.0 i) started

-- a process was stopped, where it was up, and may ask what releases its Lease
pub record StoppedAs (doc : Doc) (k : ℕ) (id : ProcId) (h : List Entry) (i : ℕ) (Stands : List Entry → Type 0) (s : Stopped) : Type 0 where
  pub told : printed (happens doc k (what.Stop id) h) ≡ printed h ++ stopped_deeds k (identity id.0 i) s.stopped
  pub asks : AsksIn doc k 1 (identity id.0 i) (script_entry k 1 (Happens (what.Stop id) None) ∷ h) (happens doc k (what.Stop id) h) Stands s.ask

-- ---- a turn

-- the history after the expiry and the end of a controller's turn
abbrev pub settled : Doc → ℕ → ℕ → List Entry → List Entry
settled doc k p h = finish doc k p (expire doc k p h)

-- the history after the restart, by the sort of the process; a kubelet has none
abbrev pub restarted_as : Doc → ℕ → ℕ → Bool → List Entry → List Entry
restarted_as doc k p true h = restart doc k p h
restarted_as doc k p false h = h

abbrev pub restarted : Doc → ℕ → ℕ → List Entry → List Entry
restarted doc k p h = restarted_as doc k p (is_controller doc p) h

-- a turn but for its tick, by the sort of the process
abbrev pub own_turn_as : Doc → ℕ → ℕ → Bool → List Entry → List Entry
own_turn_as doc k p true h = elector_turn doc k p h
own_turn_as doc k p false h = kubelet_turn doc k p h

abbrev pub own_turn : Doc → ℕ → ℕ → List Entry → List Entry
own_turn doc k p h = own_turn_as doc k p (is_controller doc p) h

abbrev pub ended_deeds : ℕ → Identity → Bool → List Deed
ended_deeds k q b = deeds_of k (actor_of q) (when b act.End)

-- a process of this sort has done its turn, but for its tick
pub record TurnedAs (doc : Doc) (k p : ℕ) (sort : Bool) (h : List Entry) (i : ℕ) (Stands : List Entry → Type 0) (t : Turn) : Type 0 where
  pub told : printed (own_turn_as doc k p sort h)
      ≡ printed h ++ started_deeds k (identity p i) t.started ++ ended_deeds k (identity p i) t.ended
  pub asks : AsksIn doc k 4 (identity p i) (restarted_as doc k p sort h) (own_turn_as doc k p sort h) Stands t.ask

abbrev pub Turned : Doc → ℕ → ℕ → List Entry → ℕ → (List Entry → Type 0) → Turn → Type 0
Turned doc k p h i Stands t = TurnedAs doc k p (is_controller doc p) h i Stands t

-- ---- a tick

-- the tick of a controller's turn; a kubelet has none
abbrev pub own_ticks_as : Doc → ℕ → ℕ → Bool → List Entry → List Entry
own_ticks_as doc k p true h = ticks doc k p h
own_ticks_as doc k p false h = h

abbrev pub own_ticks : Doc → ℕ → ℕ → List Entry → List Entry
own_ticks doc k p h = own_ticks_as doc k p (is_controller doc p) h

-- a process of this sort has done its tick on the store, where it has one, and the deeds that are printed for it were added
pub record TickedAs (doc : Doc) (k p : ℕ) (sort : Bool) (h : List Entry) (Stands : List Entry → Type 0) (s : Store) (old new : List Deed) : Type 0 where
  pub stands : Stands (own_ticks_as doc k p sort h)
  pub store : StoreStands (own_ticks_as doc k p sort h) s
  pub told : (before : List Deed) → before ++ old ≡ printed h → before ++ new ≡ printed (own_ticks_as doc k p sort h)

-- ---- a reply

abbrev pub lead_deeds : ℕ → Identity → Option Version → List Deed
lead_deeds k q lead = deeds_of k (actor_of q) (option_map act.Lead lead)

-- a reply came to the process and it asks nothing: the history has some quiet entries more
pub record StaysOn (doc : Doc) (k : ℕ) (b : Back) (h : List Entry) (Stands : List Entry → Type 0) : Type 0 where
  pub facts : List Fact
  pub quiet : AreQuiet facts
  pub adds : delivered doc k b h ≡ with_facts k 3 b.who facts h
  pub stands : Stands (delivered doc k b h)

-- or it asks after the reply
pub record AsksAfter (doc : Doc) (k : ℕ) (q : Identity) (b : Back) (h : List Entry) (Stands : List Entry → Type 0)
    (ask : Ask) : Type 0 where
  pub call : Call
  pub who : b.who ≡ q
  pub asked : Asked doc k 3 q (entry k 3 q (Delivers call b.reply true) ∷ h) (delivered doc k b h) Stands ask

abbrev pub AsksOnReply : Doc → ℕ → Identity → Back → List Entry → (List Entry → Type 0) → Option Ask → Type 0
AsksOnReply doc k q b h Stands None = StaysOn doc k b h Stands
AsksOnReply doc k q b h Stands (Some ask) = AsksAfter doc k q b h Stands ask

-- q is the identity of the process after it
pub record Replied (doc : Doc) (k : ℕ) (q : Identity) (b : Back) (h : List Entry) (Stands : List Entry → Type 0)
    (r : Received) : Type 0 where
  pub told : printed (delivered doc k b h) ≡ printed h ++ lead_deeds k q r.lead ++ ended_deeds k q r.ended
  pub asks : AsksOnReply doc k q b h Stands r.ask
