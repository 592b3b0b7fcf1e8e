-- How a request of an identity came about, and who sends one whose reply is waited for.
use Rattle.std.proofs.Common.{◌≡◌, ◌⊎◌, ◌≤◌, ℕ, true, List, ◌∷◌, Option, Some, None, sym, ap, ◌∙◌, subst, inl, inr}
use Rattle.kube_objects.specs.Document.{Doc, is_controller}
use Rattle.kube_objects.specs.Entry.{Entry, Identity, Call, Sends, actor_of}
use Rattle.kube_objects.specs.Own.{ReleasesByStop}
use Rattle.kube_objects.specs.Process.{alive, call_in, open_as}
use Rattle.kube_objects.specs.Wire.{next_call, request_arrival}
use Rattle.history.specs.History.{history}
use Rattle.history_laws.specs.Tails.{IsTail}
use Rattle.history_laws.proofs.Plainly.{none_is}
use Rattle.call_laws.proofs.Making.{MadeAs, MadeSend, HasStopped, IsOpen, IsFreeToSend, IsReplied, are_made}
use Rattle.call_laws.proofs.Starting.{actor_is}

pub record MadeFor (doc : Doc) (q : Identity) (k step : ℕ) (call : Call) (arrives : Option ℕ) (h : List Entry) : Type 0 where
  pub step_is : (step ≡ 1) ⊎ ((step ≡ 3) ⊎ (step ≡ 4))
  pub call_is : call ≡ next_call q k call.kind call.request h
  pub arrives_is : arrives ≡ request_arrival doc q.process k h
  pub free : IsFreeToSend doc k step q call.kind h
  pub replied : IsReplied doc k step q call.request h

pub made_for : (doc : Doc) → ReleasesByStop doc → (m : ℕ) (q : Identity) (x : Entry) (T : List Entry) (call : Call) (arrives : Option ℕ) → IsTail (x ∷ T) (history doc m) → x.actor ≡ actor_of q → x.fact ≡ Sends call arrives
    → MadeFor doc q x.beat x.step call arrives T
made_for doc rules m q x T call arrives at actor fact = subst (λ q. MadeFor doc q x.beat x.step call arrives T) (actor_is made.q q (sym made.by ∙ actor)) as_made
  where
    made : MadeSend doc x.beat x.step x.actor call arrives T
    made = subst (λ d. MadeAs doc x.beat x.step x.actor d T) fact (are_made doc rules m x T at)

    kind : made.kind ≡ call.kind
    kind = sym (ap (λ (c : Call). c.kind) made.call_is)

    request : made.request ≡ call.request
    request = sym (ap (λ (c : Call). c.request) made.call_is)

    as_made : MadeFor doc made.q x.beat x.step call arrives T
    as_made = record {
      step_is = made.step_is;
      call_is = made.call_is ∙ ap (λ kind. next_call made.q x.beat kind made.request T) kind ∙ ap (λ r. next_call made.q x.beat call.kind r T) request;
      arrives_is = made.arrives_is;
      free = subst (λ kind. IsFreeToSend doc x.beat x.step made.q kind T) kind made.free;
      replied = subst (λ r. IsReplied doc x.beat x.step made.q r T) request made.replied;
    }

-- who sends a call and waits for its reply is up, and waits for none before
pub record IsFree (q : Identity) (x : Entry) (T : List Entry) (call : Call) : Type 0 where
  pub up : alive q.process T ≡ Some q.incarnation
  pub idle : call_in q T ≡ None
  pub step : 3 ≤ x.step
  pub sent : call.sent ≡ x.beat

pub is_free : (doc : Doc) → ReleasesByStop doc → (m : ℕ) (q : Identity) → is_controller doc q.process ≡ true → (x : Entry) (T : List Entry) (call : Call) (arrives : Option ℕ) → IsTail (x ∷ T) (history doc m) → x.actor ≡ actor_of q → x.fact ≡ Sends call arrives
    → open_as call.kind call ≡ Some call → IsFree q x T call
is_free doc rules m q role x T call arrives at actor fact opens = by_free (made.free role)
  where
    made : MadeFor doc q x.beat x.step call arrives T
    made = made_for doc rules m q x T call arrives at actor fact

    by_free : HasStopped x.beat q call.kind T ⊎ ((alive q.process T ≡ Some q.incarnation) × (call_in q T ≡ None) × (3 ≤ x.step) × IsOpen call.kind) → IsFree q x T call
    by_free (inr free) = record { up = free.0; idle = free.1; step = free.2; sent = ap (λ (c : Call). c.sent) made.call_is }
    by_free (inl stopped) = absurd (none_is call (sym (ap (λ kind. open_as kind call) stopped.kind_is) ∙ opens))
