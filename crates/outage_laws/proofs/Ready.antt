-- Whoever acts at its turn, under the project's own rules of releases, acts as its tick begins.
use Rattle.std.proofs.Common.{◌≡◌, ◌∙◌, ℕ, ◌&&◌, not, nat_lt, Bool, true, false, List, ◌∷◌, Option, Some, None, refl, sym, ap, subst}
use Rattle.std.specs.Prelude.{if◌then◌else◌}
use Rattle.std.proofs.lemmas.Bool.{eq-eqb}
use Rattle.kube_objects.specs.Clocks.{local}
use Rattle.kube_objects.specs.Document.{Doc}
use Rattle.kube_objects.specs.Elector.{deadline, is_before, timer, in_term, acts}
use Rattle.kube_objects.specs.Entry.{Entry, Identity, Call, entry, Expires}
use Rattle.kube_objects.specs.InForce.{watches}
use Rattle.kube_objects.specs.Newest.{has}
use Rattle.kube_objects.specs.Own.{ReleasesByStop}
use Rattle.kube_objects.specs.Pauses.{is_paused}
use Rattle.kube_objects.specs.Process.{alive, is_present, call_in, is_late, release_begun}
use Rattle.kube_objects.specs.Tick.{has_settled}
use Rattle.kube_objects.specs.Turns.{expired, expire_call, expire_as, end_term, end_as, just_expired, is_fast_call, attempt_if, try}
use Rattle.kube_objects.specs.Wire.{loses_requests}
use Rattle.kube_objects.proofs.Own.{acts-own, expire_as-own}
use Rattle.history.specs.Steps.{if_up, restart_if, restart, expire, finish, attempts}
use Rattle.history_laws.proofs.Counting.{present_is}
use Rattle.history_laws.proofs.Plainly.{and_left, and_right, and_both, not_true, false_is}

-- up, before the deadline, watching and heard, and settled
pub record Ready (doc : Doc) (q : Identity) (k : ℕ) (h : List Entry) : Type 0 where
  pub up : alive q.process h ≡ Some q.incarnation
  pub at : ℕ
  pub leads : deadline doc q h ≡ Some at
  pub before : nat_lt (local doc q.process k) at ≡ true
  pub awake : is_paused doc q.process k ≡ false
  pub watching : watches doc q.process h ≡ true
  pub passing : loses_requests q.process h ≡ false
  pub settled : has_settled doc k q h ≡ true

module _ (doc : Doc) (own : ReleasesByStop doc) (q : Identity) (k : ℕ) where
  pub ready_at : (h : List Entry) → acts doc q k h ≡ true → watches doc q.process h ≡ true → loses_requests q.process h ≡ false → has_settled doc k q h ≡ true → Ready doc q k h
  ready_at h acting watching passing settled = by_deadline (deadline doc q h) refl (and_right (is_present (alive q.process h) q.incarnation) (is_before (local doc q.process k) (deadline doc q h)) (and_right (not (is_paused doc q.process k)) (in_term doc q k h) (term acting)))
    where
      term : acts doc q k h ≡ true → (not (is_paused doc q.process k) && in_term doc q k h) ≡ true
      term acting = sym (acts-own doc own q k h) ∙ acting

      by_deadline : (o : Option ℕ) → deadline doc q h ≡ o → is_before (local doc q.process k) o ≡ true → Ready doc q k h
      by_deadline None is before = absurd (false_is before)
      by_deadline (Some at) is before = record {
        up = present_is (alive q.process h) q.incarnation (and_left (is_present (alive q.process h) q.incarnation) (is_before (local doc q.process k) (deadline doc q h)) (and_right (not (is_paused doc q.process k)) (in_term doc q k h) (term acting)));
        at = at;
        leads = is;
        before = before;
        awake = not_true (is_paused doc q.process k) (and_left (not (is_paused doc q.process k)) (in_term doc q k h) (term acting));
        watching = watching;
        passing = passing;
        settled = settled;
      }

  pub still : (h : List Entry) → Ready doc q k h → acts doc q k h ≡ true
  still h s =
      acts-own doc own q k h ∙ and_both (not (is_paused doc q.process k)) (in_term doc q k h) (ap not s.awake)
      (subst (λ o. (is_present o q.incarnation && is_before (local doc q.process k) (deadline doc q h)) ≡ true) (sym s.up)
      (subst (λ b. (b && is_before (local doc q.process k) (deadline doc q h)) ≡ true) (sym (eq-eqb q.incarnation q.incarnation refl))
      (subst (λ o. is_before (local doc q.process k) o ≡ true) (sym s.leads) s.before)))

  pub ready_restart : (h : List Entry) → Ready doc q k h → Ready doc q k (restart doc k q.process h)
  ready_restart h s = subst (λ o. Ready doc q k (restart_if doc k q.process o h)) (sym s.up) s

  pub ready_expire : (h : List Entry) → Ready doc q k h → Ready doc q k (expire doc k q.process h)
  ready_expire h s = subst (λ o. Ready doc q k (if_up q.process (λ q T. expired doc k q T) o h)) (sym s.up) (by_call (call_in q h))
    where
      by_expiry : (call : Call) → Ready doc q k (entry k 4 q (Expires call) ∷ h)
      by_expiry call = record { up = s.up; at = s.at; leads = s.leads; before = s.before; awake = s.awake; watching = s.watching; passing = s.passing; settled = s.settled }

      by_late : (call : Call) (b : Bool) → Ready doc q k (if b then expire_as doc k q call (release_begun doc.settings.rules.release call.kind) h else h)
      by_late call true = subst (Ready doc q k) (sym (expire_as-own doc own k q call h)) (by_expiry call)
      by_late call false = s

      by_call : (o : Option Call) → Ready doc q k (expire_call doc k q o h)
      by_call None = s
      by_call (Some call) = by_late call (is_late doc q k call)

  pub ready_finish : (h : List Entry) → Ready doc q k h → Ready doc q k (finish doc k q.process h)
  ready_finish h s =
      subst (λ o. Ready doc q k (if_up q.process (λ q T. end_term doc k q (deadline doc q T) T) o h)) (sym s.up)
      (subst (λ o. Ready doc q k (end_term doc k q o h)) (sym s.leads)
      (subst (λ b. Ready doc q k (if b then h else end_as doc.settings.rules.release doc k q h)) (sym s.before) s))

  pub ready_attempts : (h : List Entry) → Ready doc q k h → Ready doc q k (attempts doc k q.process h)
  ready_attempts h s = subst (λ o. Ready doc q k (if_up q.process (try doc k) o h)) (sym s.up) (by_test (is_fast_call (just_expired q k h)) (not (has (call_in q h)) && not (nat_lt (local doc q.process k) (timer doc q h))))
    where
      by_test : (a b : Bool) → Ready doc q k (attempt_if doc k q a b h)
      by_test true b = record { up = s.up; at = s.at; leads = s.leads; before = s.before; awake = s.awake; watching = s.watching; passing = s.passing; settled = s.settled }
      by_test false true = record { up = s.up; at = s.at; leads = s.leads; before = s.before; awake = s.awake; watching = s.watching; passing = s.passing; settled = s.settled }
      by_test false false = s
