-- A leader in a calm span stays: it acts at each beat, and nobody else writes the election Lease. Source: client-go, package
-- `leaderelection`; profile.
use Rattle.std.specs.Prelude.{◌≡◌, ◌≤◌, ◌<◌, ℕ, suc, ◌+◌, ◌-◌, ◌*◌, true, List, ◌∷◌}
use Rattle.kube_base.specs.declared.numbers.Version.{Version}
use Rattle.kube_objects.specs.declared.call.Reply.TheVariants.{Done}
use Rattle.kube_objects.specs.Document.{Doc, end_beat, is_controller, retry_period, renew_deadline}
use Rattle.kube_objects.specs.Elector.{succeeds}
use Rattle.kube_objects.specs.Entry.{Entry, Identity, Call, Delivers, actor_of, entry}
use Rattle.kube_objects.specs.Newest.{has}
use Rattle.kube_objects.specs.Own.{ReleasesByStop}
use Rattle.kube_objects.specs.Stored.{election, at_key, write_of}
use Rattle.history.specs.History.{history}
use Rattle.history.specs.Safe.{Acts}
use Rattle.history.specs.Sound.{IsSound}
use Rattle.history_laws.specs.Tails.{IsTail}
use Rattle.span_laws.specs.Spans.{RunsAtLeast, RunsAtMost, IsEnough}
use Rattle.takeover_laws.specs.Acting.{AreInTime}
use Rattle.takeover_laws.specs.Calm.{IsSteady, IsCalm}
use Rattle.takeover_laws.specs.Waits.{blocked_for}

-- in beat j a reply to a call of q, which was sent at beat a or later, counts and tells that the election Lease was written: by this q leads, or
-- its lead is renewed
pub record HasSuccess (doc : Doc) (q : Identity) (a j : ℕ) : Type 0 where
  pub call : Call
  pub version : Version
  pub before : List Entry
  pub position : IsTail (entry j 3 q (Delivers call (Done version) true) ∷ before) (history doc (suc j))
  pub since : a ≤ call.sent
  pub success : succeeds call.request (Done version) ≡ true

-- a leader's renewals come before its deadline, and before another finds its record over: wait is enough beats for its retry period; four ways take
-- no longer than its renew deadline, and wait, five ways and what a way may be shorter take less on every steady controller's clock than its record
-- blocks that controller
pub record RenewsInTime (doc : Doc) (near far a e : ℕ) (q : Identity) : Type 0 where
  pub slow : ℕ
  pub fast : ℕ
  pub fastest : ℕ
  pub wait : ℕ
  pub runs_least : RunsAtLeast doc q.process a e slow
  pub runs_most : RunsAtMost doc q.process a e fast
  pub others : (p : ℕ) → is_controller doc p ≡ true → IsSteady doc near far a e p → RunsAtMost doc p a e fastest
  pub wait_is : IsEnough slow (retry_period doc q.process) wait
  pub deadline : (4 * far) * fast ≤ renew_deadline doc q.process
  pub lasts : (p : ℕ) → is_controller doc p ≡ true → IsSteady doc near far a e p → (wait + 5 * far - near) * fastest < blocked_for doc p q.process

-- from beat j to beat e it acts at each beat, and each accepted write of the election Lease is its own
pub record Stays (doc : Doc) (q : Identity) (j e : ℕ) : Type 0 where
  pub acts : (k : ℕ) → j ≤ k → k ≤ e → Acts doc q k
  pub alone : (x : Entry) (before : List Entry) → IsTail (x ∷ before) (history doc (suc e)) → j ≤ x.beat → has (at_key election (write_of x.fact)) ≡ true → x.actor ≡ actor_of q

-- in a calm span, a steady leader whose renewals are in time stays from each success on that a call of the span had
abbrev pub LeaderStays : Doc → Type 0
LeaderStays doc =
    (near far a e : ℕ) → IsSound doc → ReleasesByStop doc → IsCalm doc near far a e → AreInTime doc near far a e → 1 ≤ near → near ≤ far → e ≤ end_beat doc
    → (q : Identity) → is_controller doc q.process ≡ true → IsSteady doc near far a e q.process → RenewsInTime doc near far a e q
    → (j : ℕ) → HasSuccess doc q a j → Stays doc q j e

abbrev pub LeadersStay : Type 0
LeadersStay = (doc : Doc) → LeaderStays doc
