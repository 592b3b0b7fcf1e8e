-- What the bounds of a document's elections ask of its history: that no message is lost, nobody is paused and the store goes, and who is up and
-- leads. How far clocks go, how long messages take and what the settings bear isn't asked: the document has it. Source: profile.
use Rattle.std.specs.Prelude.{◌≡◌, ◌≤◌, ◌<◌, ◌⊎◌, ℕ, suc, ◌+◌, ◌-◌, ◌*◌, true, false, length, Option, Some, IfSome}
use Rattle.kube_base.specs.declared.numbers.Version.{Version}
use Rattle.kube_objects.specs.declared.call.Reply.TheVariants.{Done}
use Rattle.kube_objects.specs.declared.object.Object.{Object}
use Rattle.kube_objects.specs.Document.{Doc, end_beat, is_controller}
use Rattle.kube_objects.specs.Entry.{Entry, Identity, Call, Release, Crashes, Stops, Ends, Sends, Answers, entry}
use Rattle.kube_objects.specs.Keys.{key_eq}
use Rattle.kube_objects.specs.Newest.{has}
use Rattle.kube_objects.specs.Pauses.{is_paused}
use Rattle.kube_objects.specs.Process.{alive}
use Rattle.kube_objects.specs.Stalls.{is_stalled}
use Rattle.kube_objects.specs.Stored.{election, key_of}
use Rattle.kube_objects.specs.Wire.{loses_requests, loses_replies, sent_of, back_of}
use Rattle.history.specs.History.{history, at_turn}
use Rattle.history.specs.Safe.{Acts}
use Rattle.history_laws.specs.Tails.{In}
use Rattle.call_laws.specs.Answering.{with_events}
use Rattle.takeover_laws.specs.Acting.{ActsBetween}
use Rattle.takeover_laws.specs.Calm.{AllBeats, IsQuiet}
use Rattle.stay_laws.specs.Stays.{Stays}
use Rattle.lens_bounds.specs.Documents.{calm_of}

-- the greatest delay of a message to or from a controller, one way
abbrev pub far_of : Doc → ℕ
far_of doc = (calm_of doc).far

-- with what is in force after a beat's events, none of a process's messages is lost, it isn't paused, and the store goes
pub record IsHeard (doc : Doc) (p k : ℕ) : Type 0 where
  pub requests : loses_requests p (with_events doc k) ≡ false
  pub replies : loses_replies p (with_events doc k) ≡ false
  pub awake : is_paused doc p k ≡ false
  pub goes : is_stalled doc k ≡ false

-- so it is from beat a to beat e, and it isn't taken down but by the deadline of its term, and not so at a itself. It may be down, and start
pub record IsUndisturbed (doc : Doc) (a e p : ℕ) : Type 0 where
  pub heard : (k : ℕ) → a ≤ k → k ≤ e → IsHeard doc p k
  pub crashes : AllBeats doc e p Crashes (λ k. k ≤ a)
  pub stops : AllBeats doc e p Stops (λ k. k < a)
  pub ends : AllBeats doc e p Ends (λ k. k ≡ a → ⊥)

-- a leader, up to the beat before b: it has led for three ways or longer, and is undisturbed up to then, and awake for one way more; each other
-- controller is undisturbed up to beat e, and the store goes
pub record LeadsUndisturbed (doc : Doc) (b e : ℕ) (q : Identity) : Type 0 where
  pub role : is_controller doc q.process ≡ true
  pub own : IsUndisturbed doc 0 (b - 1) q.process
  pub awake : (k : ℕ) → k ≤ b + far_of doc → is_paused doc q.process k ≡ false
  pub others : (p : ℕ) → is_controller doc p ≡ true → (p ≡ q.process → ⊥) → IsUndisturbed doc 0 e p
  pub goes : (k : ℕ) → k ≤ e → is_stalled doc k ≡ false
  pub within : b ≤ e
  pub end : e ≤ end_beat doc
  pub long : 3 * far_of doc ≤ b
  pub acts : Acts doc q (b - 3 * far_of doc)

-- another controller that is up after its turn at beat b
pub record IsOther (doc : Doc) (b : ℕ) (q : Identity) (p : ℕ) : Type 0 where
  pub role : is_controller doc p ≡ true
  pub other : p ≡ q.process → ⊥
  pub up : has (alive p (at_turn doc (suc p) b)) ≡ true

-- by a stop at beat b a leader gives up its lead, and the release is accepted
pub record GivesUp (doc : Doc) (b e : ℕ) (q : Identity) : Type 0 where
  pub call : Call
  pub at : ℕ
  pub kind : call.kind ≡ Release
  pub send : In (entry b 1 q (Sends call (Some at))) (history doc (suc b))
  pub version : Version
  pub comes : Option ℕ
  pub object : Object
  pub accepted : In (entry at 2 q (Answers call (Done version) comes (Some object))) (history doc (suc e))

-- from beat a to beat e each controller is undisturbed, or writes no election Lease, and what of the election was under way at a comes within one way
pub record IsWell (doc : Doc) (a e : ℕ) : Type 0 where
  pub each : (p : ℕ) → is_controller doc p ≡ true → IsUndisturbed doc a e p ⊎ IsQuiet doc a e p
  pub requests : (x : Entry) → In x (history doc a) → IfSome (sent_of x.actor x.fact) (λ s. key_eq (key_of s.call.request) election ≡ true → IfSome s.arrives (λ m. m < a + far_of doc))
  pub replies : (x : Entry) → In x (history doc a) → IfSome (back_of x.actor x.fact) (λ b. key_eq (key_of b.call.request) election ≡ true → IfSome b.comes (λ m. m < a + far_of doc))

-- a controller that may follow the one at a place: another one, or the only one. It is undisturbed, and up after its turn so many beats after a
pub record MayFollow (doc : Doc) (a e later place p : ℕ) : Type 0 where
  pub role : is_controller doc p ≡ true
  pub other : (p ≡ place → ⊥) ⊎ (length doc.controllers ≡ 1)
  pub undisturbed : IsUndisturbed doc a e p
  pub up : has (alive p (at_turn doc (suc p) (a + later))) ≡ true

-- an identity of an undisturbed controller acts at a beat from a to n
pub record LeadsWell (doc : Doc) (a e n : ℕ) : Type 0 where
  pub q : Identity
  pub role : is_controller doc q.process ≡ true
  pub undisturbed : IsUndisturbed doc a e q.process
  pub acts : ActsBetween doc q a n

-- or stays from beat n on
pub record StaysWell (doc : Doc) (a e n : ℕ) : Type 0 where
  pub q : Identity
  pub role : is_controller doc q.process ≡ true
  pub undisturbed : IsUndisturbed doc a e q.process
  pub stays : Stays doc q n e
