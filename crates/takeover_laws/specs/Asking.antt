-- When a candidate asks again. Source: client-go, package `leaderelection`, its retry period and JitterFactor; profile.
use Rattle.std.specs.Prelude.{◌≡◌, ◌≤◌, ◌<◌, ℕ, suc, ◌+◌, true, List, ◌∷◌, Option, Some}
use Rattle.kube_objects.specs.declared.call.Reply.{Reply}
use Rattle.kube_objects.specs.declared.call.Request.TheVariants.{Get}
use Rattle.kube_objects.specs.Clocks.{local}
use Rattle.kube_objects.specs.Document.{Doc, is_controller, renew_deadline}
use Rattle.kube_objects.specs.Elector.{Fails, follow_on, shown, observed}
use Rattle.kube_objects.specs.Entry.{Entry, Identity, Call, Sends, Delivers, actor_of, entry}
use Rattle.kube_objects.specs.Process.{alive}
use Rattle.kube_objects.specs.Stored.{election}
use Rattle.kube_objects.specs.Own.{ReleasesByStop}
use Rattle.history.specs.History.{history}
use Rattle.history.specs.Safe.{Acts}
use Rattle.history_laws.specs.Tails.{IsTail}
use Rattle.call_laws.specs.Answering.{with_events}
use Rattle.takeover_laws.specs.Calm.{IsSteady}
use Rattle.takeover_laws.specs.Waits.{longest_wait, shortest_wait}

-- after a position it sent a Get, at a beat at which its clock had reached a reading; nothing was shown to it between
pub record HasAsked (doc : Doc) (q : Identity) (at : ℕ) (low h : List Entry) : Type 0 where
  pub x : Entry
  pub before : List Entry
  pub position : IsTail (x ∷ before) h
  pub since : IsTail low before
  pub call : Call
  pub arrives : Option ℕ
  pub fact : x.fact ≡ Sends call arrives
  pub actor : x.actor ≡ actor_of q
  pub get : call.request ≡ Get election
  pub reached : at ≤ local doc q.process x.beat
  pub shown_is : shown q before ≡ shown q low
  pub seen_is : observed q before ≡ observed q low

-- a controller whose messages pass and that doesn't act, one of whose replies was followed by a failure, has sent a Get by the end of each later
-- beat at which its clock has gone its longest wait since, and none before its shortest one
abbrev pub CandidatesAsk : Type 0
CandidatesAsk =
    (doc : Doc) → ReleasesByStop doc → (near far a e n r k : ℕ) (q : Identity) → is_controller doc q.process ≡ true → 1 ≤ renew_deadline doc q.process → IsSteady doc near far a e q.process → n ≤ e
    → ((j : ℕ) → a ≤ j → j ≤ n → Acts doc q j → ⊥) → a ≤ r
    → (call : Call) (reply : Reply) (before : List Entry) → IsTail (with_events doc a) before → IsTail (entry r 3 q (Delivers call reply true) ∷ before) (history doc (suc n)) → alive q.process before ≡ Some q.incarnation
    → follow_on doc q r call.kind call.request reply (entry r 3 q (Delivers call reply true) ∷ before) ≡ Fails
    → r < k → k ≤ n → local doc q.process r + longest_wait doc q.process ≤ local doc q.process k
    → HasAsked doc q (local doc q.process r + shortest_wait doc q.process) (entry r 3 q (Delivers call reply true) ∷ before) (history doc (suc k))
