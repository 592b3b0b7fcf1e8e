-- Calm spans of beats: the messages of each controller pass, or it writes no election Lease. Source: profile.
use Rattle.std.specs.Prelude.{◌≡◌, ◌⊎◌, ℕ, suc, ◌+◌, ◌*◌, ◌≤◌, ◌<◌, true, false, IfSome}
use Rattle.kube_objects.specs.Document.{Doc, is_controller, call_timeout, renew_deadline}
use Rattle.kube_objects.specs.Entry.{Entry, Fact, Crashes, Stops, Ends, Answers}
use Rattle.kube_objects.specs.Identities.{of_process}
use Rattle.kube_objects.specs.Keys.{key_eq}
use Rattle.kube_objects.specs.Newest.{has}
use Rattle.kube_objects.specs.Pauses.{is_paused}
use Rattle.kube_objects.specs.Stalls.{is_stalled}
use Rattle.kube_objects.specs.Stored.{election, key_of, request_write, at_key}
use Rattle.kube_objects.specs.Wire.{loses_requests, loses_replies, request_delay, reply_delay, sent_of, back_of}
use Rattle.history.specs.History.{history}
use Rattle.history_laws.specs.Tails.{In}
use Rattle.span_laws.specs.Spans.{RunsAtMost}
use Rattle.call_laws.specs.Answering.{with_events}

-- with what is in force after a beat's events, a process's messages aren't lost and take from near to far beats, it isn't paused, and the store
-- goes
pub record Passes (doc : Doc) (near far p k : ℕ) : Type 0 where
  pub requests : loses_requests p (with_events doc k) ≡ false
  pub replies : loses_replies p (with_events doc k) ≡ false
  pub request_least : near ≤ request_delay p (with_events doc k)
  pub request_most : request_delay p (with_events doc k) ≤ far
  pub reply_least : near ≤ reply_delay p (with_events doc k)
  pub reply_most : reply_delay p (with_events doc k) ≤ far
  pub awake : is_paused doc p k ≡ false
  pub goes : is_stalled doc k ≡ false

-- the beats at which such an entry of a process stands up to beat e
abbrev pub AllBeats : Doc → ℕ → ℕ → Fact → (ℕ → Type 0) → Type 0
AllBeats doc e p fact at = (x : Entry) → In x (history doc (suc e)) → x.fact ≡ fact → has (of_process p x.actor) ≡ true → at x.beat

-- a controller whose messages pass from beat a to beat e, and that isn't taken down but by the deadline of its term, and not so at a itself.
-- It may be down, and start
pub record IsSteady (doc : Doc) (near far a e p : ℕ) : Type 0 where
  pub passes : (k : ℕ) → a ≤ k → k ≤ e → Passes doc near far p k
  pub crashes : AllBeats doc e p Crashes (λ k. k ≤ a)
  pub stops : AllBeats doc e p Stops (λ k. k < a)
  pub ends : AllBeats doc e p Ends (λ k. k ≡ a → ⊥)

-- the answer to a call that was sent at beat a or later, by which the election Lease was written
abbrev pub WritesElection : ℕ → Fact → Type 0
WritesElection a (Answers call reply comes wrote) = (a ≤ call.sent) × (has (at_key election (request_write call.request wrote)) ≡ true)
WritesElection a _ = ⊥

-- a controller none of whose calls from beat a on writes the election Lease up to beat e
abbrev pub IsQuiet : Doc → ℕ → ℕ → ℕ → Type 0
IsQuiet doc a e p = (x : Entry) → In x (history doc (suc e)) → has (of_process p x.actor) ≡ true → WritesElection a x.fact → ⊥

-- each controller is steady or quiet from beat a to beat e, and what of the election was under way at a comes as if the delays had been within far
pub record IsCalm (doc : Doc) (near far a e : ℕ) : Type 0 where
  pub each : (p : ℕ) → is_controller doc p ≡ true → IsSteady doc near far a e p ⊎ IsQuiet doc a e p
  pub requests : (x : Entry) → In x (history doc a) → IfSome (sent_of x.actor x.fact) (λ s. key_eq (key_of s.call.request) election ≡ true → IfSome s.arrives (λ m. m < a + far))
  pub replies : (x : Entry) → In x (history doc a) → IfSome (back_of x.actor x.fact) (λ b. key_eq (key_of b.call.request) election ≡ true → IfSome b.comes (λ m. m < a + far))

-- two messages take no longer than the call timeout on the process's clock, and its terms last
pub record IsInTime (doc : Doc) (far a e p : ℕ) : Type 0 where
  pub fast : ℕ
  pub runs : RunsAtMost doc p a e fast
  pub timeout : (2 * far) * fast ≤ call_timeout doc p
  pub deadline : 1 ≤ renew_deadline doc p
