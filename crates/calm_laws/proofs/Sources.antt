-- Where a reply is from to who never leads: its answer and its request stand in the history, and the request was for the election Lease.
use Rattle.std.proofs.Common.{◌≡◌, ◌≤◌, ℕ, suc, true, false, List, ◌∷◌, inr}
use Rattle.kube_objects.specs.declared.call.Reply.{Reply}
use Rattle.kube_objects.specs.Document.{Doc, is_controller}
use Rattle.kube_objects.specs.Elector.{leads}
use Rattle.kube_objects.specs.Entry.{Entry, Identity, Call}
use Rattle.kube_objects.specs.Own.{ReleasesByStop}
use Rattle.kube_objects.specs.Stored.{election, key_of}
use Rattle.history.specs.History.{history}
use Rattle.history_laws.specs.Tails.{IsTail}
use Rattle.history_laws.proofs.Tailed.{tail_all, tail_trans}
use Rattle.calm_laws.proofs.Asked.{Reason, reason_key, reason_of}
use Rattle.calm_laws.proofs.Origins.{Origin}

pub record Source (doc : Doc) (n : ℕ) (q : Identity) (w : Call) (reply : Reply) (T : List Entry) (y : ℕ) (o : Origin doc q w reply T y) : Type 0 where
  pub position : IsTail (o.e ∷ o.low) (history doc (suc n))
  pub sending : IsTail (o.begun.f ∷ o.begun.before) (history doc (suc n))
  pub asked : Reason doc o.begun.f.beat q w.request o.begun.before × (3 ≤ o.begun.f.step)
  pub key : key_of w.request ≡ election

pub source : (doc : Doc) → ReleasesByStop doc → (n : ℕ) (q : Identity) → is_controller doc q.process ≡ true → ((h : List Entry) → IsTail h (history doc (suc n)) → leads q h ≡ false)
    → (w : Call) (reply : Reply) (T : List Entry) (y : ℕ) (o : Origin doc q w reply T y) → IsTail T (history doc (suc n)) → Source doc n q w reply T y o
source doc rules n q role led w reply T y o high = record {
  position = tail_trans (o.e ∷ o.low) T (history doc (suc n)) o.answered high;
  sending = sending;
  asked = asked;
  key = reason_key doc o.begun.f.beat q w.request o.begun.before asked.0;
}
  where
    sending : IsTail (o.begun.f ∷ o.begun.before) (history doc (suc n))
    sending = tail_trans (o.begun.f ∷ o.begun.before) T (history doc (suc n)) o.begun.position high

    asked : Reason doc o.begun.f.beat q w.request o.begun.before × (3 ≤ o.begun.f.step)
    asked =
        reason_of doc rules (suc n) q role o.begun.f o.begun.before w o.begun.arrives sending o.begun.actor o.begun.fact
        (led o.begun.before (tail_trans o.begun.before (o.begun.f ∷ o.begun.before) (history doc (suc n)) (inr (tail_all o.begun.before)) sending)) o.begun.opens
