-- The world stands for a document before a beat, or within one.
use Rattle.std.specs.Prelude.{◌≡◌, ℕ, ◌+◌, ◌<◌, ◌≤◌, ◌++◌, List, [], ◌∷◌, slice_get, length, vec_len, drop, All}
use Rattle.std.specs.Prelude.{Option, Some, None, Result, OnOk, true}
use Rattle.std.specs.List.{AllByRecursion, list_all}
use Rattle.kube_objects.specs.declared.call.Ask.{Ask}
use Rattle.kube_objects.specs.declared.call.Reply.{Reply}
use Rattle.kube_objects.specs.declared.deed.Deed.{Deed}
use Rattle.kube_objects.specs.declared.key.Key.{Key}
use Rattle.kube_objects.specs.declared.object.Object.{Object}
use Rattle.kube_objects.specs.declared.script.Event.{Event}
use Rattle.kube_objects.specs.declared.script.Proc.{Proc}
use Rattle.kube_objects.specs.declared.script.What.{What}
use Rattle.kube_objects.specs.declared.script.What.TheVariants.{Delay, Put}
use Rattle.kube_objects.specs.declared.settings.Settings.{Settings}
use Rattle.kube_objects.specs.Document.{Doc, processes, restart_delay, beat_micros}
use Rattle.kube_objects.specs.Entry.{Entry, Identity, Call, Answers, Sends, entry}
use Rattle.kube_objects.specs.InFlight.{requests_due, replies_due}
use Rattle.kube_objects.specs.Kinds.{IsOfKind}
use Rattle.kube_objects.specs.Wire.{Sent, Back, request_arrival, reply_arrival}
use Rattle.history.specs.History.{beat}
use Rattle.history.specs.Printed.{printed}
use Rattle.history.specs.Steps.{happens, happen_all, answer_all, deliver_all}
use Rattle.beat_tree.specs.declared.tree.BeatTree.{BeatTree}
use Rattle.beat_tree.specs.Leaves.{leaf, room}
use Rattle.beat_laws.specs.Unticked.{IsUnticked}
use Rattle.manifest_json.specs.Written.{is_writable_item}
use Rattle.naming_laws.specs.Items.{IsWritableItem}
use Rattle.object_store.specs.Stands.{StoreStands}
use Rattle.pause_times.specs.declared.stalls.Stalls.{Stalls}
use Rattle.pause_times.specs.Owned.{StallsStand}
use Rattle.script_reader.specs.Lawful.{IsLawfulDoc, IsLawfulWhat, IsWellNamed, AreLawfulFrom}
use Rattle.tick_laws.specs.Room.{AreInBeats, AreUpTo}
use Rattle.wire_calls.specs.declared.wire.Wire.{Wire}
use Rattle.wire_calls.specs.WireStands.{WireStands}
use Rattle.world_process.specs.declared.process.Process.{Process}
use Rattle.world_core.specs.declared.world.World.{World}
use Rattle.world_process.specs.InForce.{InForceStands}
use Rattle.world_process.specs.Plain.{IsFew, IsPlain, SentByKnown, BackToKnown}
use Rattle.world_process.specs.Processes.{IsKept, ProcessStands, clock_of, waking_of}

-- ---- plain facts, that callers see

abbrev pub at_of : World → ℕ
at_of w = w.beat.0

abbrev pub end_of : World → ℕ
end_of w = w.end.0

abbrev pub names_of : World → List (List ℕ)
names_of w = w.names

-- how many processes it has
abbrev pub count_of : World → ℕ
count_of w = vec_len w.processes

-- the ranges of an event's delays, in beats; an object that it puts is of its key's kind
abbrev pub IsFit : What → Type 0
IsFit (Delay id requests replies) = ((1 ≤ requests) × (requests ≤ 6000)) × ((1 ≤ replies) × (replies ≤ 6000))
IsFit (Put key object) = IsOfKind key object
IsFit _ = Unit {0}

-- the processes' clocks go on to this beat
abbrev pub GoOnTo : ℕ → List Process → Type 0
GoOnTo end xs = (i : ℕ) (x : Process) → slice_get xs i ≡ Some x → (clock_of x).end ≡ end

-- each process keeps the beat of its next turn
abbrev pub AreKept : List Process → Type 0
AreKept xs = (i : ℕ) (x : Process) → slice_get xs i ≡ Some x → IsKept x

-- each leaf is the beat that its process keeps; the leaves after the last one's have none
pub record AreNoted (xs : List Process) (turn_beats : BeatTree) : Type 0 where
  pub room : length xs ≤ room turn_beats
  pub leaves : (i : ℕ) (x : Process) → slice_get xs i ≡ Some x → leaf turn_beats i ≡ (waking_of x).until
  pub beyond : (i : ℕ) → length xs ≤ i → leaf turn_beats i ≡ None

-- the ranges of a world that was made of a document, and what its processes keep
pub record IsReady (w : World) : Type 0 where
  pub end : w.end.0 ≤ 604800000
  pub restart : w.restart ≤ 86400000000000000
  pub epoch : w.epoch.0 < 7258118400000000
  pub micros : w.micros ≤ 1000000
  pub events : All (λ e. IsFit e.what) w.events
  pub few : vec_len w.processes ≤ 15016
  pub clocks : GoOnTo w.end.0 w.processes.items
  pub controllers : w.controllers ≤ vec_len w.processes
  pub kept : AreKept w.processes.items
  pub noted : AreNoted w.processes.items w.turn_beats

-- a world whose end isn't passed
pub record IsRunning (w : World) : Type 0 where
  pub ready : IsReady w
  pub within : at_of w ≤ end_of w

-- the beat and what was read of the document, but for the place among the events
pub record SameDocument (old new : World) : Type 0 where
  pub beat : new.beat ≡ old.beat
  pub end : new.end ≡ old.end
  pub restart : new.restart ≡ old.restart
  pub epoch : new.epoch ≡ old.epoch
  pub micros : new.micros ≡ old.micros
  pub events : new.events ≡ old.events
  pub names : new.names ≡ old.names
  pub controllers : new.controllers ≡ old.controllers
  pub stalls : new.stalls ≡ old.stalls

-- what a step of a beat keeps
pub record Keeps (old new : World) : Type 0 where
  pub ready : IsReady new
  pub same : SameDocument old new
  pub place : new.place ≡ old.place
  pub count : vec_len new.processes ≡ vec_len old.processes

-- ---- the relation

-- what the world keeps of a document
pub record DocStands (doc : Doc) (k : ℕ) (w : World) : Type 0 where
  pub at : w.beat.0 ≡ k
  pub restart : w.restart ≡ restart_delay doc
  pub count : length w.processes.items ≡ processes doc
  pub epoch : w.epoch ≡ doc.settings.epoch
  pub micros : w.micros ≡ beat_micros doc
  pub events : w.events ≡ doc.events
  pub controllers : w.controllers ≡ length doc.controllers
  pub stalls : StallsStand doc w.stalls

-- the events before a place were of earlier beats, and those from it on are of this beat or later
pub record IsPlaced (doc : Doc) (k place : ℕ) : Type 0 where
  pub earlier : (i : ℕ) (e : Event) → i < place → slice_get doc.events i ≡ Some e → e.beat.0 < k
  pub later : AreLawfulFrom doc k (drop place doc.events)

-- all but the processes; these requests and replies have still to be taken at the beat
pub record RestStands (doc : Doc) (k : ℕ) (arriving : List Sent) (coming : List Back) (h : List Entry) (w : World) : Type 0 where
  pub document : DocStands doc k w
  pub plain : IsPlain (processes doc) h
  pub store : StoreStands h w.store
  pub wire : WireStands (processes doc) k arriving coming h w.wire
  pub in_force : InForceStands doc h w.in_force

abbrev pub EachStands : Doc → List Entry → List Process → Type 0
EachStands doc h xs = (p : ℕ) (x : Process) → slice_get xs p ≡ Some x → ProcessStands doc p h x

-- all processes but one
abbrev pub OthersStand : Doc → ℕ → List Entry → List Process → Type 0
OthersStand doc q h xs = (p : ℕ) (x : Process) → ¬ (p ≡ q) → slice_get xs p ≡ Some x → ProcessStands doc p h x

-- what processes are made of is what the document has
pub record AreMadeOf (doc : Doc) (s : Settings) (cs ks : List Proc) (ws : List (List ℕ)) (es : List Event) : Type 0 where
  pub settings : doc.settings ≡ s
  pub controllers : doc.controllers ≡ cs
  pub kubelets : doc.kubelets ≡ ks
  pub waits : doc.waits ≡ ws
  pub events : doc.events ≡ es

pub record WorldWithin (doc : Doc) (k : ℕ) (arriving : List Sent) (coming : List Back) (h : List Entry) (w : World) : Type 0 where
  pub rest : RestStands doc k arriving coming h w
  pub processes : EachStands doc h w.processes.items

-- entries stand in the order of their beats, none of a later one than this
pub record AreInTime (k : ℕ) (h : List Entry) : Type 0 where
  pub in_beats : AreInBeats h
  pub upto : AreUpTo k h

-- the world before beat k, whose history is h
pub record WorldStands (doc : Doc) (k : ℕ) (h : List Entry) (w : World) : Type 0 where
  pub within : WorldWithin doc k (requests_due k h) (replies_due k h) h w
  pub placed : IsPlaced doc k w.place
  pub unticked : IsUnticked k h
  pub in_time : AreInTime k h

-- within a beat, with what was printed before the beat and in it
pub record MidBeat (doc : Doc) (k : ℕ) (before : List Deed) (arriving : List Sent) (coming : List Back) (h : List Entry) (w : World)
    (deeds : List Deed) : Type 0 where
  pub world : WorldWithin doc k arriving coming h w
  pub told : before ++ deeds ≡ printed h

-- ---- what can be written

-- the document was read, and its names are the world's
pub record WasRead (doc : Doc) (w : World) : Type 0 where
  pub lawful : IsLawfulDoc doc
  pub named : IsWellNamed (names_of w) doc

-- the items can be written as a manifest, as `write_list` asks
pub record AreWritable (names : List (List ℕ)) (controllers : ℕ) (items : List (Key × Object)) : Type 0 where
  pub each : AllByRecursion (λ item. IsWritableItem names controllers item.0 item.1) items
  pub timely : list_all is_writable_item items ≡ true

-- ---- beats without entries

-- no entry stands at the beats from k to before n: each, done on the history before them, adds none
abbrev pub AreQuiet : Doc → ℕ → ℕ → List Entry → Type 0
AreQuiet doc k n h = (j : ℕ) → k ≤ j → j < n → beat doc h j ≡ h

-- ---- what is asked

-- the wire did what an identity asks at beat k, where it asks; what is asked waits where the store stands still
abbrev pub SendsAsked : ℕ → Identity → Option Ask → Stalls → Wire → Wire → Type 0
SendsAsked k q None stalls old new = new ≡ old
SendsAsked k q (Some ask) stalls old new =
    (doc : Doc) (processes step : ℕ) (arriving : List Sent) (coming : List Back) (h : List Entry) (call : Call)
    → StallsStand doc stalls → WireStands processes k arriving coming h old → call.number ≡ ask.number → call.request ≡ ask.request
    → WireStands processes k arriving coming (entry k step q (Sends call (request_arrival doc q.process k h)) ∷ h) new

-- ---- the steps of a beat, each in a world within it and where the step ends well

-- the history is now what `next` makes of it
abbrev pub Adds : {A E : Type 0} → World → List Deed → Result A E → World → List Deed → (Doc → ℕ → List Entry → List Entry)
    → Type 0
Adds w deeds result v new next =
    (doc : Doc) (k : ℕ) (before : List Deed) (arriving : List Sent) (coming : List Back) (h : List Entry)
    → MidBeat doc k before arriving coming h w deeds → IsFew (next doc k h)
    → OnOk result (MidBeat doc k before arriving coming (next doc k h) v new)

-- all requests that had to be taken were answered
abbrev pub AnswersArrivals : {A E : Type 0} → World → List Deed → Result A E → World → List Deed → Type 0
AnswersArrivals w deeds result v new =
    (doc : Doc) (k : ℕ) (before : List Deed) (arriving : List Sent) (coming : List Back) (h : List Entry)
    → MidBeat doc k before arriving coming h w deeds → SentByKnown (processes doc) h arriving
    → OnOk result (MidBeat doc k before [] coming (answer_all doc k arriving h) v new)

-- all replies that had to be taken were delivered
abbrev pub DeliversReplies : {A E : Type 0} → World → List Deed → Result A E → World → List Deed → Type 0
DeliversReplies w deeds result v new =
    (doc : Doc) (k : ℕ) (before : List Deed) (arriving : List Sent) (coming : List Back) (h : List Entry)
    → MidBeat doc k before arriving coming h w deeds → BackToKnown (processes doc) h coming → IsFew (deliver_all doc k coming h)
    → OnOk result (MidBeat doc k before arriving [] (deliver_all doc k coming h) v new)

-- the history with a request's answer, whose reply is on its way
abbrev pub with_answer : Doc → ℕ → ℕ → Identity → Call → Reply → Option Object → List Entry → List Entry
with_answer doc k step q call reply wrote h = entry k step q (Answers call reply (reply_arrival doc q.process k h) wrote) ∷ h

-- ---- events

-- an event has happened in a world within a beat, and what is printed of it was added
abbrev pub Happens : World → List Deed → World → List Deed → What → Type 0
Happens w deeds v new what = (doc : Doc) (k : ℕ) (before : List Deed) (arriving : List Sent) (coming : List Back) (h : List Entry)
    → MidBeat doc k before arriving coming h w deeds → IsLawfulWhat doc what → IsFew (happens doc k what h)
    → MidBeat doc k before arriving coming (happens doc k what h) v new

-- all events of the beat have happened; what they sent arrives later
pub record Scripted (doc : Doc) (k : ℕ) (before : List Deed) (arriving : List Sent) (coming : List Back) (h : List Entry) (w : World)
    (deeds : List Deed) : Type 0 where
  pub running : MidBeat doc k before arriving coming (happen_all doc k doc.events h) w deeds
  pub placed : IsPlaced doc (k + 1) w.place
  pub requests : requests_due k (happen_all doc k doc.events h) ≡ requests_due k h
  pub replies : replies_due k (happen_all doc k doc.events h) ≡ replies_due k h
