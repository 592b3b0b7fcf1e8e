-- Where leaders don't renew without a Get, a controller asks for the election Lease in its turn, and writes it after a reply only.
use Rattle.std.proofs.Common.{◌≡◌, ℕ, ◌&&◌, cond, true, false, List, ◌∷◌, refl, ap, ◌∙◌, inl, inr, arith, Option}
use Rattle.kube_objects.specs.declared.call.Request.TheVariants.{Get}
use Rattle.kube_objects.specs.Document.{Doc, is_controller}
use Rattle.kube_objects.specs.Elector.{is_fast, leads, shown, moment, observed_at, attempt_from, attempt}
use Rattle.kube_objects.specs.Entry.{Entry, Identity, CallKind, Plain, Sends, actor_of, Call}
use Rattle.kube_objects.specs.declared.call.Request.{Request}
use Rattle.kube_objects.specs.Stored.{election}
use Rattle.kube_objects.specs.Own.{ReleasesByStop}
use Rattle.history.specs.History.{history}
use Rattle.history_laws.specs.Tails.{IsTail}
use Rattle.calm_laws.proofs.Requests.{no_kubelet}
use Rattle.calm_laws.proofs.Added.{SentFor, sends_for}

module _ (doc : Doc) (rules : ReleasesByStop doc) (slowly : doc.settings.fast_renew ≡ false) where
  attempt_plain : (q : Identity) (k : ℕ) (h : List Entry) → attempt doc q k h ≡ (Plain, Get election)
  attempt_plain q k h = ap (λ b. cond (b && leads q h) (attempt_from q (moment doc q k) (observed_at doc q h) (shown q h)) (Plain, Get election)) slowly

  -- what a controller sends is no renewal without a Get, and in its turn it is a Get
  pub sends_plainly : (k : ℕ) (x : Entry) (before : List Entry) (q : Identity) (call : Call) (arrives : Option ℕ) → IsTail (x ∷ before) (history doc k) → x.actor ≡ actor_of q → x.fact ≡ Sends call arrives → is_controller doc q.process ≡ true
      → (is_fast call.kind ≡ false) × (x.step ≡ 4 → call.request ≡ Get election)
  sends_plainly k x before q call arrives at by fact role = cases (sends_for doc rules k x before q call arrives at by fact)
    where
      cases : SentFor doc x q call before → (is_fast call.kind ≡ false) × (x.step ≡ 4 → call.request ≡ Get election)
      cases (inl released) = (ap is_fast released.1, λ four. absurd (omega (arith, four, released.0)))
      cases (inr (inl replied)) = (ap is_fast replied.1, λ four. absurd (omega (arith, four, replied.0)))
      cases (inr (inr (inl polled))) = (ap is_fast polled.0, λ four. polled.1)
      cases (inr (inr (inr (inl tried)))) = (
        ap is_fast tried.0 ∙ ap (λ (a : CallKind × Request). is_fast a.0) (attempt_plain q x.beat before),
        λ four. tried.1 ∙ ap (λ (a : CallKind × Request). a.1) (attempt_plain q x.beat before),
      )
      cases (inr (inr (inr (inr other)))) = no_kubelet doc q q _ other.0 refl role
