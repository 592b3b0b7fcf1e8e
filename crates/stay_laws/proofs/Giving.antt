-- Whoever gives up its Lease has just been stopped.
use Rattle.std.proofs.Common.{◌≡◌, ◌⊎◌, ◌≤◌, ℕ, true, List, ◌∷◌, Option, Some, None, sym, ap, ◌∙◌, inl, inr, arith}
use Rattle.kube_objects.specs.Document.{Doc, is_controller}
use Rattle.kube_objects.specs.Entry.{Entry, Identity, Call, Plain, Stops, Sends, actor_of, entry}
use Rattle.kube_objects.specs.Own.{ReleasesByStop}
use Rattle.kube_objects.specs.Process.{alive, call_in}
use Rattle.history.specs.History.{history}
use Rattle.history_laws.specs.Tails.{IsTail}
use Rattle.history_laws.proofs.Plainly.{false_is}
use Rattle.lease_laws.proofs.Given.{attempt_keeps}
use Rattle.lease_laws.proofs.Invariant.{gives_up}
use Rattle.call_laws.proofs.Making.{HasStopped, IsOpen}
use Rattle.call_laws.proofs.Sending.{made_for}
use Rattle.calm_laws.proofs.Added.{SentFor, sends_for}

-- a call that does comes right after a stop
pub gives_at_stop : (doc : Doc) → ReleasesByStop doc → (n : ℕ) (q : Identity) → is_controller doc q.process ≡ true
    → (x : Entry) (T : List Entry) (call : Call) (arrives : Option ℕ) → IsTail (x ∷ T) (history doc n) → x.actor ≡ actor_of q → x.fact ≡ Sends call arrives
    → gives_up call.kind ≡ true → (before : List Entry) × (T ≡ entry x.beat 1 q Stops ∷ before)
gives_at_stop doc rules n q role x T call arrives at actor fact gives = cases (sends_for doc rules n x T q call arrives at actor fact)
  where
    stopped : x.step ≡ 1 → HasStopped x.beat q call.kind T ⊎ ((alive q.process T ≡ Some q.incarnation) × (call_in q T ≡ None) × (3 ≤ x.step) × IsOpen call.kind)
        → (before : List Entry) × (T ≡ entry x.beat 1 q Stops ∷ before)
    stopped one (inl s) = (s.before, s.is)
    stopped one (inr free) = absurd (omega (arith, one, free.2))

    plain : call.kind ≡ Plain → ⊥
    plain is = false_is (sym (ap gives_up is) ∙ gives)

    cases : SentFor doc x q call T → (before : List Entry) × (T ≡ entry x.beat 1 q Stops ∷ before)
    cases (inl released) = stopped released.0 ((made_for doc rules n q x T call arrives at actor fact).free role)
    cases (inr (inl replied)) = absurd (plain replied.1)
    cases (inr (inr (inl polled))) = absurd (plain polled.0)
    cases (inr (inr (inr (inl tried)))) = absurd (false_is (sym (ap gives_up tried.0 ∙ attempt_keeps doc q x.beat T) ∙ gives))
    cases (inr (inr (inr (inr other)))) = absurd (plain other.1)
