-- What a leader gives up its lead by is an update to a Lease that nobody holds.
use Rattle.std.proofs.Common.{◌≡◌, ℕ, List, ◌∷◌, Option, None, Some, refl, sym, ap, subst, inl, inr, ◌∙◌}
use Rattle.kube_objects.specs.declared.call.Request.{Request}
use Rattle.kube_objects.specs.declared.call.Request.TheVariants.{Update}
use Rattle.kube_objects.specs.declared.lease.Holder.TheVariants as holder
use Rattle.kube_objects.specs.Clocks.{wall}
use Rattle.kube_objects.specs.Document.{Doc}
use Rattle.kube_objects.specs.Elector.{Shown, shown, leads, given_up, attempt, release_from, release}
use Rattle.kube_objects.specs.Entry.{Entry, Identity, Plain, Release, Sends, Call, actor_of}
use Rattle.kube_objects.specs.Identities.{is_own}
use Rattle.kube_objects.specs.Stored.{election}
use Rattle.kube_objects.specs.Own.{ReleasesByStop}
use Rattle.history.specs.History.{history}
use Rattle.history_laws.specs.Tails.{IsTail}
use Rattle.history_laws.proofs.Counting.{only_value, when_value}
use Rattle.history_laws.proofs.Plainly.{none_is, false_is}
use Rattle.lease_laws.proofs.Invariant.{gives_up}
use Rattle.calm_laws.proofs.Added.{SentFor, sends_for}
use Rattle.lease_laws.proofs.Given.{attempt_keeps}

-- a request by which nobody holds the Lease any more
abbrev pub Frees : Request → Type 0
Frees (Update key version lease) = lease.holder ≡ holder.Nobody
Frees _ = ⊥

-- other kinds of calls
plain_not : (A : Type 0) → Plain ≡ Release → A
plain_not A is = cc

attempt_not : (doc : Doc) (q : Identity) (k : ℕ) (h : List Entry) (A : Type 0) → (attempt doc q k h).0 ≡ Release → A
attempt_not doc q k h A is = absurd (false_is (sym (attempt_keeps doc q k h) ∙ ap gives_up is))

-- what a stop sends
release_frees : (doc : Doc) (q : Identity) (k : ℕ) (h : List Entry) (request : Request) → release doc q k h ≡ Some request → Frees request
release_frees doc q k h request is = by_shown (shown q h) (only_value (leads q h) (release_from q (wall doc q.process k) (shown q h)) request is)
  where
    by_shown : (o : Option Shown) → release_from q (wall doc q.process k) o ≡ Some request → Frees request
    by_shown None none = absurd (none_is request none)
    by_shown (Some x) some =
        let freeing : Request = Update election x.0 (given_up (wall doc q.process k) x.1) in subst Frees (when_value (is_own q x.1.holder) freeing request some) refl

-- so each request of a release does
pub releases_free : (doc : Doc) → ReleasesByStop doc → (k : ℕ) (x : Entry) (before : List Entry) (q : Identity) (call : Call) (arrives : Option ℕ) → IsTail (x ∷ before) (history doc k) → x.actor ≡ actor_of q → x.fact ≡ Sends call arrives → call.kind ≡ Release → Frees call.request
releases_free doc rules k x before q call arrives at by fact kind = cases (sends_for doc rules k x before q call arrives at by fact)
  where
    cases : SentFor doc x q call before → Frees call.request
    cases (inl released) = release_frees doc q x.beat released.2 call.request released.3
    cases (inr (inl replied)) = plain_not _ (sym replied.1 ∙ kind)
    cases (inr (inr (inl polled))) = plain_not _ (sym polled.0 ∙ kind)
    cases (inr (inr (inr (inl tried)))) = attempt_not doc q x.beat before _ (sym tried.0 ∙ kind)
    cases (inr (inr (inr (inr other)))) = plain_not _ (sym other.1 ∙ kind)
