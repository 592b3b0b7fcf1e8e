-- The way of a call to the store and back. Source: profile.
use Rattle.std.specs.Prelude.{◌≡◌, ◌≤◌, Option, ℕ, suc, ◌+◌, ◌*◌, List, ◌∷◌, Some, true}
use Rattle.kube_objects.specs.declared.call.Reply.{Reply}
use Rattle.kube_objects.specs.Answers.{answer}
use Rattle.kube_objects.specs.Document.{Doc, is_controller}
use Rattle.kube_objects.specs.Entry.{Entry, Identity, Call, Sends, Delivers, actor_of, entry}
use Rattle.kube_objects.specs.Process.{alive}
use Rattle.kube_objects.specs.Wire.{reply_arrival}
use Rattle.kube_objects.specs.Own.{ReleasesByStop}
use Rattle.history.specs.History.{history}
use Rattle.history.specs.Steps.{answered}
use Rattle.history_laws.specs.Tails.{IsTail}
use Rattle.call_laws.specs.Answering.{with_events, IsDelivered}
use Rattle.takeover_laws.specs.Calm.{IsSteady, IsInTime}

-- a call that is sent at beat j is answered at a beat, and its reply is delivered at a later one
pub record IsRound (doc : Doc) (near far : ℕ) (q : Identity) (call : Call) (arrives : Option ℕ) (j : ℕ) : Type 0 where
  pub at : ℕ
  pub arrives_is : arrives ≡ Some at
  pub least : j + near ≤ at
  pub most : at ≤ j + far
  pub before : List Entry
  pub after : IsTail (with_events doc at) before
  pub position : IsTail (answered doc at (record { who = q; call = call; arrives = Some at }) before) (history doc (suc at))
  pub comes : ℕ
  pub comes_is : reply_arrival doc q.process at before ≡ Some comes
  pub comes_least : at + near ≤ comes
  pub comes_most : comes ≤ at + far
  pub deliveries : IsDelivered doc comes (record { who = q; call = call; reply = answer call.request before; comes = reply_arrival doc q.process at before })

-- each call of a controller whose messages pass is answered after one way, and its reply is delivered after another
abbrev pub RoundsAreShort : Type 0
RoundsAreShort = (doc : Doc) → ReleasesByStop doc → (near far a e : ℕ) (q : Identity) → IsSteady doc near far a e q.process → 1 ≤ near
    → (m : ℕ) (x : Entry) (T : List Entry) (call : Call) (arrives : Option ℕ) → IsTail (x ∷ T) (history doc m) → x.actor ≡ actor_of q → x.fact ≡ Sends call arrives → 2 ≤ x.step → a ≤ x.beat → x.beat + 2 * far ≤ e
    → IsRound doc near far q call arrives x.beat

-- a reply to the call counts at a beat between
pub record HasCounted (doc : Doc) (q : Identity) (call : Call) (from to : ℕ) : Type 0 where
  pub at : ℕ
  pub least : from ≤ at
  pub most : at ≤ to
  pub reply : Reply
  pub before : List Entry
  pub position : IsTail (entry at 3 q (Delivers call reply true) ∷ before) (history doc (suc at))

-- and it counts, where the sender stays up and the call timeout is at least two ways
abbrev pub RepliesCount : Type 0
RepliesCount =
    (doc : Doc) → ReleasesByStop doc → (near far a e n : ℕ) (q : Identity) → is_controller doc q.process ≡ true → IsSteady doc near far a e q.process → IsInTime doc far a e q.process → 1 ≤ near → n ≤ e
    → (x : Entry) (T : List Entry) (call : Call) (arrives : Option ℕ) → IsTail (x ∷ T) (history doc (suc n)) → x.actor ≡ actor_of q → x.fact ≡ Sends call arrives → a ≤ x.beat → x.beat + 2 * far ≤ n
    → ((h : List Entry) → IsTail T h → IsTail h (history doc (suc n)) → alive q.process h ≡ Some q.incarnation)
    → HasCounted doc q call (x.beat + 2 * near) (x.beat + 2 * far)
