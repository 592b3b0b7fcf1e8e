-- A call waits until its reply counts, it expires, or its sender is stopped; and it is answered once. Source: profile.
use Rattle.std.specs.Prelude.{◌≡◌, ◌⊎◌, ℕ, true, List, ◌∷◌, Option, Some}
use Rattle.kube_objects.specs.declared.deed.Actor.{Actor}
use Rattle.kube_objects.specs.Document.{Doc, is_controller}
use Rattle.kube_objects.specs.Entry.{Entry, Identity, Call, Fact, Stops, Sends, Delivers, Expires, actor_of}
use Rattle.kube_objects.specs.Identities.{is_by}
use Rattle.kube_objects.specs.Process.{open_as, call_in}
use Rattle.kube_objects.specs.Wire.{Back, back_of}
use Rattle.kube_objects.specs.Own.{ReleasesByStop}
use Rattle.history.specs.History.{history}
use Rattle.history_laws.specs.Tails.{IsTail}

-- a counted reply to the call, its expiry, or a stop of its sender
abbrev pub Closes : Identity → Call → Actor → Fact → Type 0
Closes q call who (Delivers c reply true) = (is_by q who ≡ true) × (c ≡ call)
Closes q call who (Expires c) = (is_by q who ≡ true) × (c ≡ call)
Closes q call who Stops = is_by q who ≡ true
Closes q call who _ = ⊥

-- such an entry stands in a history and came after a position of it
pub record IsClosed (q : Identity) (call : Call) (sent h : List Entry) : Type 0 where
  pub e : Entry
  pub before : List Entry
  pub position : IsTail (e ∷ before) h
  pub since : IsTail sent before
  pub closes : Closes q call e.actor e.fact

-- a controller's call waits at each position after its sending, but for a release, until it is closed
abbrev pub CallsWait : Type 0
CallsWait = (doc : Doc) → ReleasesByStop doc → (m : ℕ) (h : List Entry) → IsTail h (history doc m)
    → (q : Identity) (call : Call) (arrives : Option ℕ) (e : Entry) (before : List Entry) → is_controller doc q.process ≡ true
    → IsTail (e ∷ before) h → e.actor ≡ actor_of q → e.fact ≡ Sends call arrives → open_as call.kind call ≡ Some call
    → (call_in q h ≡ Some call) ⊎ IsClosed q call (e ∷ before) h

-- two answers to one identity's calls of one number are one entry
abbrev pub AnswersDiffer : Type 0
AnswersDiffer = (doc : Doc) → ReleasesByStop doc → (k : ℕ) (e f : Entry) (g h : List Entry) (x y : Back)
    → IsTail (e ∷ g) (history doc k) → IsTail (f ∷ h) (history doc k)
    → back_of e.actor e.fact ≡ Some x → back_of f.actor f.fact ≡ Some y → x.who ≡ y.who → x.call.number ≡ y.call.number → e ∷ g ≡ f ∷ h
