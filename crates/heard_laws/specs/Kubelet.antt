-- When a kubelet that dies tells of its node for the last time. Source: KEP-589, node heartbeats, for the Lease and its renewal; the order of a
-- round's calls is the profile's.
use Rattle.std.specs.Prelude.{◌≡◌, ◌⊎◌, ◌≤◌, ◌<◌, ℕ, suc, ◌+◌, ◌*◌, false, List, ◌∷◌, Option, Some}
use Rattle.kube_base.specs.declared.numbers.Version.{Version}
use Rattle.kube_objects.specs.declared.call.Reply.{Reply}
use Rattle.kube_objects.specs.declared.key.Key.{Key}
use Rattle.kube_objects.specs.declared.object.Object.{Object}
use Rattle.kube_objects.specs.declared.script.What.{What}
use Rattle.kube_objects.specs.declared.script.What.TheVariants.{Put}
use Rattle.kube_objects.specs.Document.{Doc, processes, is_controller, call_timeout}
use Rattle.kube_objects.specs.Entry.{Entry, Identity, Call, First, Event, Starts, Answers, actor_of}
use Rattle.kube_objects.specs.Kinds.{IsOfKind}
use Rattle.kube_objects.specs.Kubelet.{node_of, round_period}
use Rattle.kube_objects.specs.Own.{ReleasesByStop}
use Rattle.kube_objects.specs.Process.{alive}
use Rattle.kube_objects.specs.Stalls.{is_stalled}
use Rattle.kube_objects.specs.Stored.{event_write}
use Rattle.history.specs.History.{history}
use Rattle.history.specs.Sound.{IsSound}
use Rattle.history_laws.specs.Tails.{IsTail}
use Rattle.span_laws.specs.Spans.{RunsAtLeast, RunsAtMost, IsEnough}
use Rattle.call_laws.specs.Answering.{with_events}
use Rattle.takeover_laws.specs.Calm.{IsSteady}
use Rattle.heard_laws.specs.Heard.{is_about, IsLastTold}

-- the incarnation of a node's kubelet that starts in the events of beat s, with messages that pass from then to its last beat, and that isn't up after
-- the events of the next one; the store goes for one way more
pub record LivesFrom (doc : Doc) (near far s last : ℕ) (q : Identity) (name : ℕ) : Type 0 where
  pub role : is_controller doc q.process ≡ false
  pub known : q.process < processes doc
  pub node : node_of doc q.process ≡ name
  pub steady : IsSteady doc near far s last q.process
  pub goes : (k : ℕ) → s ≤ k → k ≤ last + far → is_stalled doc k ≡ false
  pub start : Entry
  pub before : List Entry
  pub stands : IsTail (start ∷ before) (with_events doc s)
  pub starts : start.fact ≡ Starts
  pub actor : start.actor ≡ actor_of q
  pub beat : start.beat ≡ s
  pub up : alive q.process (with_events doc s) ≡ Some q.incarnation
  pub dead : alive q.process (with_events doc (suc last)) ≡ Some q.incarnation → ⊥

-- two messages take no longer than its call timeout on its clock
pub record IsAnsweredInTime (doc : Doc) (far s e : ℕ) (q : Identity) : Type 0 where
  pub fast : ℕ
  pub runs : RunsAtMost doc q.process s e fast
  pub timeout : (2 * far) * fast ≤ call_timeout doc q.process

-- after beat s, to the end of beat e, the node and its Lease are left to the kubelet's incarnation: the script writes neither, the node has no other
-- kubelet, and none of the kubelet's calls are answered but those that this incarnation sent from beat s on
pub record IsLeftAlone (doc : Doc) (s e : ℕ) (q : Identity) (name : ℕ) : Type 0 where
  pub script : (y : Entry) (g : List Entry) (what : What) (version : Option Version) → IsTail (y ∷ g) (history doc (suc e)) → y.fact ≡ Event what version → s < y.beat
      → is_about name (event_write what version) ≡ false
  pub kubelets : (p : ℕ) → is_controller doc p ≡ false → node_of doc p ≡ name → p ≡ q.process
  pub calls : (y : Entry) (g : List Entry) (call : Call) (reply : Reply) (comes : Option ℕ) (written : Option Object) → IsTail (y ∷ g) (history doc (suc e)) → y.fact ≡ Answers call reply comes written
      → (r : Identity) → y.actor ≡ actor_of r → r.process ≡ q.process → s < y.beat → (r ≡ q) × (s ≤ call.sent)

-- each object of the document, and each that the script puts, stands under a key of its kind
abbrev pub PutsAreOfKind : Doc → ℕ → Type 0
PutsAreOfKind doc e =
    (y : Entry) (g : List Entry) (key : Key) (object : Object) → IsTail (y ∷ g) (history doc (suc e)) → (y.fact ≡ First key object) ⊎ ((version : Option Version) × (y.fact ≡ Event (Put key object) version))
    → IsOfKind key object

-- the last write that tells of its node comes no later than a message's way after its last beat
abbrev pub LastWordsAreSoon : Type 0
LastWordsAreSoon =
    (doc : Doc) (near far s last e v : ℕ) (q : Identity) (name : ℕ) → IsSound doc → ReleasesByStop doc → 1 ≤ near → LivesFrom doc near far s last q name → s ≤ last
    → IsLeftAlone doc s e q name → last + far ≤ e → IsLastTold doc name v e → v ≤ last + far

-- and no sooner than five ways of its messages after the beginning of the last round that it had time for: it sends its write four ways after a
-- round's beginning, and begins the next round as soon as a quarter of the Lease's duration is over and its messages are back
abbrev pub LastWordsAreLate : Type 0
LastWordsAreLate =
    (doc : Doc) (near far s last e v : ℕ) (q : Identity) (name : ℕ) → IsSound doc → ReleasesByStop doc → 1 ≤ near → LivesFrom doc near far s last q name → s + 4 * far ≤ last
    → IsAnsweredInTime doc far s e q → IsLeftAlone doc s e q name → PutsAreOfKind doc e → last + far ≤ e
    → (slow enough most : ℕ) → RunsAtLeast doc q.process s last slow → IsEnough slow (round_period doc) enough → enough ≤ most → 6 * far ≤ most
    → IsLastTold doc name v e → suc last + 5 * near ≤ v + 4 * far + most
