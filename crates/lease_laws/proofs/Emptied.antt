-- A leader that empties its Lease acts no longer than until it has the answer.
use Rattle.std.proofs.Common.{◌≡◌, ◌≤◌, ℕ, ◌+◌, ◌||◌, ◌==◌, not, nat_lt, Bool, true, false, List, Some, refl, sym, ap, ◌∙◌, ⊎_elim}
use Rattle.std.proofs.lemmas.Bool.{ltb-true, ltb-false, eq-eqb, cases_lt}
use Rattle.kube_objects.specs.declared.rules.ReleaseRule.{ReleaseRule}
use Rattle.kube_objects.specs.declared.rules.ReleaseRule.TheVariants as rules
use Rattle.kube_objects.specs.Clocks.{local}
use Rattle.kube_objects.specs.Document.{Doc, call_timeout, renew_deadline}
use Rattle.kube_objects.specs.Entry.{Entry, Identity, Call, CallKind, Emptying, actor_of}
use Rattle.kube_objects.specs.Pauses.{is_paused}
use Rattle.kube_objects.specs.Process.{starts, begun_by, is_release_over, release_begun, is_late}
use Rattle.kube_objects.specs.Wire.{sent_of}
use Rattle.history.specs.History.{at_turn}
use Rattle.history.specs.Safe.{IsActing}
use Rattle.history.specs.Steps.{elector_turn}
use Rattle.history_laws.proofs.Lives.{Over}
use Rattle.history_laws.proofs.Plainly.{none_is, true_is, and_both, same_self}
use Rattle.lease_laws.specs.Emptied.{HasAsked, HasHeard, ActsUntil, ActsUntilHeard}
use Rattle.lease_laws.proofs.Invariant.{gives_up}
use Rattle.lease_laws.proofs.Freed.{acting_up, acting_awake, over_at_tick, late_ends, heard_ends}
use Rattle.lease_laws.proofs.Given.{Asked, hears, Pending, Told, turn_told}

-- a call that is of a release is of the one that its kind says
begun_of : (rule : ReleaseRule) (kind : CallKind) (begun : ℕ) → release_begun rule kind ≡ Some begun → release_begun rule kind ≡ begun_by kind
begun_of rules.Stop kind begun is = absurd (none_is begun is)
begun_of rules.Own kind begun is = refl
begun_of rules.Checked kind begun is = refl
begun_of rules.Reread kind begun is = refl

module _ (doc : Doc) (q : Identity) (k begun : ℕ) (c : Call) (acts : IsActing doc q k) (kind : c.kind ≡ Emptying begun) (asked : HasAsked q c (at_turn doc q.process k)) where
  h : List Entry
  h = at_turn doc q.process k

  awake : is_paused doc q.process k ≡ false
  awake = acting_awake doc q k (elector_turn doc k q.process (at_turn doc q.process k)) acts.1

  not_over : Over q (elector_turn doc k q.process (at_turn doc q.process k)) → ⊥
  not_over over = over.1 (acting_up doc q k (elector_turn doc k q.process (at_turn doc q.process k)) acts.1)

  told : Told doc q c k (at_turn doc q.process k)
  told = turn_told doc q c acts.0 (ap gives_up kind) q.process k

  sent : Asked q c (at_turn doc q.process k)
  sent = record {
    e = asked.e;
    at = asked.stands;
    arrives = asked.arrives;
    is = ap (λ who. sent_of who asked.e.fact) asked.by ∙ ap (λ d. sent_of (actor_of q) d) asked.sends;
  }

  unheard : HasHeard q c (at_turn doc q.process k) → ⊥
  unheard r = not_over (heard_ends doc q k acts.0 awake c (at_turn doc q.process k) told sent r.e r.stands heard r.later)
    where
      heard : hears q c.number r.e.actor r.e.fact ≡ true
      heard = ap (λ who. hears q c.number who r.e.fact) r.by ∙ ap (λ d. hears q c.number (actor_of q) d) r.delivers
          ∙ and_both _ (r.answered.number == c.number) (same_self q) (eq-eqb r.answered.number c.number r.number)

  -- it waits for the answer
  waiting : Pending doc q c (at_turn doc q.process k)
  waiting = ⊎_elim (λ over. absurd (not_over (over_at_tick doc q k acts.0 awake (at_turn doc q.process k) over))) (λ w. w) (told.gone sent)

  in_time : is_late doc q k c ≡ false
  in_time = by_test (is_late doc q k c) refl
    where
      started : Pending doc q c (at_turn doc q.process k) → q.incarnation ≤ starts q.process (at_turn doc q.process k)
      started w = ⊎_elim (λ lt. absurd (none_is c (sym (((told.fit.each q).unborn lt).1) ∙ w.waits))) (λ le. le) (cases_lt (starts q.process (at_turn doc q.process k)) q.incarnation)

      by_test : (b : Bool) → is_late doc q k c ≡ b → b ≡ false
      by_test false is = refl
      by_test true late = absurd (not_over (late_ends doc q k acts.0 awake c (at_turn doc q.process k) (started waiting) waiting late))

  of : release_begun doc.settings.rules.release c.kind ≡ Some begun
  of = begun_of doc.settings.rules.release c.kind waiting.begun waiting.of ∙ ap begun_by kind

  acts_until : ActsUntil doc q k begun c
  acts_until = by_time (nat_lt (local doc q.process k) (local doc q.process begun + renew_deadline doc q.process)) (nat_lt (local doc q.process c.sent + call_timeout doc q.process) (local doc q.process k)) refl refl
      (sym (ap (λ o. is_release_over doc q k o || nat_lt (local doc q.process c.sent + call_timeout doc q.process) (local doc q.process k)) of) ∙ in_time)
    where
      by_time : (a b : Bool) → nat_lt (local doc q.process k) (local doc q.process begun + renew_deadline doc q.process) ≡ a → nat_lt (local doc q.process c.sent + call_timeout doc q.process) (local doc q.process k) ≡ b
          → (not a || b) ≡ false → ActsUntil doc q k begun c
      by_time true false before within is = record { unheard = unheard; call = ltb-false _ _ within; release = ltb-true _ _ before }
      by_time true true before within is = absurd (true_is is)
      by_time false b before within is = absurd (true_is is)

pub until_heard : ActsUntilHeard
until_heard doc q k begun c acts kind asked = acts_until doc q k begun c acts kind asked
