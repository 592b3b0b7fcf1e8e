-- A leader in a calm falls silent, or is stopped, at a beat: what is known of it, of the other controllers, and of the settings. Source: client-go,
-- package `leaderelection`; profile.
use Rattle.std.specs.Prelude.{◌≡◌, ◌⊎◌, ◌≤◌, ◌<◌, ℕ, suc, ◌+◌, ◌-◌, ◌*◌, true, false, Option, None, Some}
use Rattle.kube_base.specs.declared.numbers.Version.{Version}
use Rattle.kube_objects.specs.declared.call.Reply.TheVariants.{Done}
use Rattle.kube_objects.specs.declared.object.Object.{Object}
use Rattle.kube_objects.specs.Document.{Doc, end_beat, is_controller}
use Rattle.kube_objects.specs.Entry.{Entry, Identity, Call, Release, Starts, Stops, Sends, Answers, entry}
use Rattle.kube_objects.specs.Identities.{of_process}
use Rattle.kube_objects.specs.Newest.{has}
use Rattle.kube_objects.specs.Own.{ReleasesByStop}
use Rattle.kube_objects.specs.Stalls.{is_stalled}
use Rattle.history.specs.History.{history}
use Rattle.history.specs.Premise.{lease_premise}
use Rattle.history.specs.Safe.{Acts}
use Rattle.history.specs.Sound.{IsSound}
use Rattle.history_laws.specs.Tails.{In}
use Rattle.span_laws.specs.Spans.{RunsAtMost}
use Rattle.takeover_laws.specs.Calm.{IsSteady, IsQuiet, IsInTime, AllBeats}
use Rattle.takeover_laws.specs.Waits.{longest_wait, blocked_for}
use Rattle.stay_laws.specs.Stays.{RenewsInTime}

-- a leader in a calm up to the beat before b: it has led for three ways or longer, and its messages pass up to then; those of each other
-- controller pass up to beat e, and the store goes
pub record LeadsUntil (doc : Doc) (near far b e : ℕ) (q : Identity) : Type 0 where
  pub role : is_controller doc q.process ≡ true
  pub steady : IsSteady doc near far 0 (b - 1) q.process
  pub others : (p : ℕ) → is_controller doc p ≡ true → (p ≡ q.process → ⊥) → IsSteady doc near far 0 e p
  pub goes : (k : ℕ) → k ≤ e → is_stalled doc k ≡ false
  pub within : b ≤ e
  pub long : 3 * far ≤ b
  pub acts : Acts doc q (b - 3 * far)

-- the document is sound, and its settings bear ways from near to far beats: each controller's calls have time for two ways; the leader's renewals come before
-- its deadline, and before another controller finds its record over on any controller's clock
pub record Bears (doc : Doc) (near far b e : ℕ) (q : Identity) : Type 0 where
  pub sound : IsSound doc
  pub rules : ReleasesByStop doc
  pub one : 1 ≤ near
  pub ways : near ≤ far
  pub end : e ≤ end_beat doc
  pub waits : (p : ℕ) → is_controller doc p ≡ true → 1 ≤ longest_wait doc p
  pub calls : (p : ℕ) → is_controller doc p ≡ true → IsInTime doc far 0 e p
  pub renews : RenewsInTime doc near far 0 (b - 1) q
  pub fastest : ℕ
  pub clocks : (p : ℕ) → is_controller doc p ≡ true → RunsAtMost doc p 0 e fastest
  pub lasts : (p : ℕ) → is_controller doc p ≡ true → (renews.wait + 5 * far - near) * fastest < blocked_for doc p q.process

-- each other controller renews in time where it leads, before beat b
abbrev pub OthersRenewBefore : Doc → (near far b : ℕ) → Identity → Type 0
OthersRenewBefore doc near far b q = (c : Identity) → is_controller doc c.process ≡ true → (c.process ≡ q.process → ⊥) → RenewsInTime doc near far 0 (b - 1) c

-- nobody else acts beside the leader: the others renew in time, or the lease premise holds
abbrev pub ActsAlone : Doc → (near far b : ℕ) → Identity → Type 0
ActsAlone doc near far b q = OthersRenewBefore doc near far b q ⊎ (lease_premise doc ≡ true)

-- from beat b on none of a process's requests arrives: it sends none, or each is lost
abbrev pub IsSilent : Doc → ℕ → ℕ → ℕ → Type 0
IsSilent doc b e p = (x : Entry) (call : Call) (arrives : Option ℕ) → In x (history doc (suc e)) → has (of_process p x.actor) ≡ true → x.fact ≡ Sends call arrives → b ≤ call.sent → arrives ≡ None

-- so it writes no election Lease from then on
abbrev pub SilentsAreQuiet : Type 0
SilentsAreQuiet = (doc : Doc) → ReleasesByStop doc → (b e p : ℕ) → IsSilent doc b e p → IsQuiet doc b e p

-- the leader is stopped at beat b, and its process doesn't start again up to beat e
pub record IsStopped (doc : Doc) (b e : ℕ) (q : Identity) : Type 0 where
  pub stop : In (entry b 1 q Stops) (history doc (suc b))
  pub down : AllBeats doc e q.process Starts (λ k. k < b)

-- by the stop it gives up its lead: the release travels for near to far beats, and is accepted
pub record IsReleased (doc : Doc) (near far b e : ℕ) (q : Identity) : Type 0 where
  pub call : Call
  pub at : ℕ
  pub kind : call.kind ≡ Release
  pub send : In (entry b 1 q (Sends call (Some at))) (history doc (suc b))
  pub least : b + near ≤ at
  pub most : at ≤ b + far
  pub version : Version
  pub comes : Option ℕ
  pub object : Object
  pub accepted : In (entry at 2 q (Answers call (Done version) comes (Some object))) (history doc (suc e))
