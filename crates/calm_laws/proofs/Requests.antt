-- In its turn, a controller that doesn't lead asks for the election Lease.
use Rattle.std.proofs.Common.{◌≡◌, ℕ, true, false, List, ◌∷◌, refl, sym, ap, ◌∙◌, inl, inr, arith, Option}
use Rattle.kube_objects.specs.declared.call.Request.TheVariants.{Get}
use Rattle.kube_objects.specs.Document.{Doc, is_controller}
use Rattle.kube_objects.specs.Elector.{leads}
use Rattle.kube_objects.specs.Entry.{Entry, Identity, Sends, actor_of, Call}
use Rattle.kube_objects.specs.Stored.{election}
use Rattle.kube_objects.specs.Own.{ReleasesByStop}
use Rattle.history.specs.History.{history}
use Rattle.history_laws.specs.Tails.{IsTail}
use Rattle.history_laws.proofs.Plainly.{true_is}
use Rattle.call_laws.proofs.Starting.{actor_is}
use Rattle.takeover_laws.proofs.Unasked.{attempt_gets}
use Rattle.calm_laws.proofs.Added.{SentFor, sends_for}

-- a kubelet is no controller
pub no_kubelet : (doc : Doc) (p q : Identity) (A : Type 0) → is_controller doc p.process ≡ false → actor_of p ≡ actor_of q → is_controller doc q.process ≡ true → A
no_kubelet doc p q A other by role = absurd (true_is (sym role ∙ ap (λ (p : Identity). is_controller doc p.process) (sym (actor_is p q by)) ∙ other))

-- a controller that doesn't lead sends a Get in its turn
pub asks_in_turn : (doc : Doc) → ReleasesByStop doc → (k : ℕ) (x : Entry) (before : List Entry) (q : Identity) (call : Call) (arrives : Option ℕ) → IsTail (x ∷ before) (history doc k) → x.actor ≡ actor_of q → x.fact ≡ Sends call arrives
    → x.step ≡ 4 → is_controller doc q.process ≡ true → leads q before ≡ false → call.request ≡ Get election
asks_in_turn doc rules k x before q call arrives at by fact four role unled = cases (sends_for doc rules k x before q call arrives at by fact)
  where
    cases : SentFor doc x q call before → call.request ≡ Get election
    cases (inl released) = absurd (omega (arith, four, released.0))
    cases (inr (inl replied)) = absurd (omega (arith, four, replied.0))
    cases (inr (inr (inl polled))) = polled.1
    cases (inr (inr (inr (inl tried)))) = tried.1 ∙ attempt_gets doc q x.beat before unled
    cases (inr (inr (inr (inr other)))) = no_kubelet doc q q _ other.0 refl role
