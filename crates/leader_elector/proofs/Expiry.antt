-- A turn begins with the expiry of a call.
use Rattle.std.proofs.Common.{◌≡◌, ◌∙◌, ℕ, ◌+◌, ◌&&◌, ◌||◌, not, Bool, true, false, List, ◌∷◌, Option, Some, None, refl, sym, ap, subst}
use Rattle.std.specs.Prelude.{if◌then◌else◌}
use Rattle.kube_base.specs.declared.numbers.Local.{Local}
use Rattle.kube_objects.specs.declared.call_slot.CallSlot.{CallSlot}
use Rattle.kube_objects.specs.CallSlots.{CallSlotStands, is_late_call, release_of}
use Rattle.kube_objects.specs.Clocks.{local}
use Rattle.kube_objects.specs.Document.{Doc}
use Rattle.kube_objects.specs.Elector.{timer, acts_on, fails, is_fast, leads, deadline, retry_at, trying_says}
use Rattle.kube_objects.specs.Entry.{Entry, Identity, Call, Expires, entry}
use Rattle.kube_objects.specs.Newest.{has, when, or_else}
use Rattle.kube_objects.specs.Process.{call_in, is_late, is_releasing, release_begun}
use Rattle.kube_objects.specs.Releases.{and_end}
use Rattle.kube_objects.specs.Turns.{expire_as, expire_call, is_fast_call, just_expired}
use Rattle.kube_objects.proofs.OwnCalls.{call_in-expired, late_expires, mine, said}
use Rattle.leader_elector.specs.declared.elector.Elector.{Elector}
use Rattle.leader_elector.specs.declared.attempts.Attempts.{Attempts}
use Rattle.leader_elector.specs.Attempts.{after_failure, attempts_of, waits_until}
use Rattle.leader_elector.specs.Stands.{AreWaitsIf, AttemptsStand, ElectorStands, IsSettled, is_fast_wait, waiting_in}
use Rattle.leader_elector.proofs.Frames.{last_releasing}
use Rattle.leader_elector.proofs.Failing.{attempts-beside, attempts-failed, until-is}
use Rattle.leader_elector.proofs.Own.{timer-expired, fast_expired, settled-slow}

module _ (doc : Doc) (k : ℕ) (q : Identity) (h : List Entry) where
  -- readings that don't look at an expiry
  leads_end : (b : Bool) → leads q (and_end k 4 q b h) ≡ leads q h
  leads_end true = refl
  leads_end false = refl

  leads_expired : (call : Call) (o : Option ℕ) → leads q (expire_as doc k q call o h) ≡ leads q h
  leads_expired call None = refl
  leads_expired call (Some begun) = leads_end (acts_on doc q h)

  leads_as : (call : Call) (b : Bool) → leads q (if b then expire_as doc k q call (release_begun doc.settings.rules.release call.kind) h else h) ≡ leads q h
  leads_as call true = leads_expired call (release_begun doc.settings.rules.release call.kind)
  leads_as call false = refl

  pub leads-expiry : (c : Option Call) → leads q (expire_call doc k q c h) ≡ leads q h
  leads-expiry None = refl
  leads-expiry (Some call) = leads_as call (is_late doc q k call)

  deadline_end : (b : Bool) → deadline doc q (and_end k 4 q b h) ≡ deadline doc q h
  deadline_end true = refl
  deadline_end false = refl

  deadline_expired : (call : Call) (o : Option ℕ) → deadline doc q (expire_as doc k q call o h) ≡ deadline doc q h
  deadline_expired call None = refl
  deadline_expired call (Some begun) = deadline_end (acts_on doc q h)

  deadline_as : (call : Call) (b : Bool) → deadline doc q (if b then expire_as doc k q call (release_begun doc.settings.rules.release call.kind) h else h) ≡ deadline doc q h
  deadline_as call true = deadline_expired call (release_begun doc.settings.rules.release call.kind)
  deadline_as call false = refl

  pub deadline-expiry : (c : Option Call) → deadline doc q (expire_call doc k q c h) ≡ deadline doc q h
  deadline-expiry None = refl
  deadline-expiry (Some call) = deadline_as call (is_late doc q k call)

  unreleased_expired : (call : Call) (o : Option ℕ) → is_releasing q h ≡ false → is_releasing q (expire_as doc k q call o h) ≡ false
  unreleased_expired call None is = is
  unreleased_expired call (Some begun) is = ap (λ b. or_else false (said (when b false) (last_releasing q (and_end k 4 q (acts_on doc q h) h)))) (mine q)

  unreleased_as : (call : Call) (b : Bool) → is_releasing q h ≡ false → is_releasing q (if b then expire_as doc k q call (release_begun doc.settings.rules.release call.kind) h else h) ≡ false
  unreleased_as call true is = unreleased_expired call (release_begun doc.settings.rules.release call.kind) is
  unreleased_as call false is = is

  pub unreleased-expiry : (c : Option Call) → is_releasing q h ≡ false → is_releasing q (expire_call doc k q c h) ≡ false
  unreleased-expiry None is = is
  unreleased-expiry (Some call) is = unreleased_as call (is_late doc q k call) is

  -- the state after an expiry: that of an update without a Get is no failure
  module _ (call : Call) (e : Elector) (slot : CallSlot) (at : Local) (tried : Attempts) (s : ElectorStands doc q h e) (is : call_in q h ≡ Some call)
      (free : CallSlotStands doc q (entry k 4 q (Expires call) ∷ h) slot) where
    abbrev expiring : Entry
    expiring = entry k 4 q (Expires call)

    fails_is : fails doc q expiring h (Expires call) ≡ not (is_fast call.kind)
    fails_is = ap (λ b. b && not (is_fast call.kind)) (mine q)

    trying_is : trying_says doc q expiring h (Expires call) ≡ when (not (is_fast call.kind) || false) false
    trying_is = ap (λ b. when (b || false) false) fails_is

    idle : has (call_in q (expiring ∷ h)) ≡ false
    idle = ap has (call_in-expired q h k 4 call)

    with_attempts : at.0 ≡ timer doc q (expiring ∷ h) → AttemptsStand doc q (expiring ∷ h) (attempts_of tried) →
        ElectorStands doc q (expiring ∷ h) (record e { slot = slot; waiting = None; timer = at; attempts = tried })
    with_attempts timer_is attempts =
        record {
          process = s.process;
          incarnation = s.incarnation;
          timing = s.timing;
          slot = free;
          waiting = sym (ap (waiting_in doc q) (call_in-expired q h k 4 call));
          shown = s.shown;
          observed = s.observed;
          timer = timer_is;
          attempts = attempts;
          tries = λ waits. absurd (cc (idle, waits));
        }

    pub expiry-lost : is_fast call.kind ≡ true → at ≡ e.timer → tried ≡ e.attempts →
        ElectorStands doc q (expiring ∷ h) (record e { slot = slot; waiting = None; timer = at; attempts = tried })
    expiry-lost fast at_is tried_is =
        with_attempts
        (ap (λ t. t.0) at_is ∙ s.timer ∙ sym (timer-expired doc q h k 4 call ∙ ap (λ b. or_else (timer doc q h) (when (not b) (retry_at (leads q h) doc q expiring h))) fast))
        (subst (λ a. AttemptsStand doc q (expiring ∷ h) (attempts_of a)) (sym tried_is)
        (attempts-beside doc q expiring h (attempts_of e.attempts) (fails_is ∙ ap not fast) refl (trying_is ∙ ap (λ b. when (not b || false) false) fast) refl refl s.attempts))

    pub expiry-failed : (waits : List ℕ) (led : Bool) (now : ℕ) → is_fast call.kind ≡ false → leads q h ≡ led → AreWaitsIf led doc q.process waits → now ≡ local doc q.process k →
        at.0 ≡ waits_until e.timing waits led now (attempts_of e.attempts) → attempts_of tried ≡ after_failure e.timing.retries waits led now (attempts_of e.attempts) →
        ElectorStands doc q (expiring ∷ h) (record e { slot = slot; waiting = None; timer = at; attempts = tried })
    expiry-failed waits led now slow led_is are now_is at_is tried_is =
        let a = attempts_of e.attempts in
        let failed : fails doc q expiring h (Expires call) ≡ true = fails_is ∙ ap not slow in
        let trying = s.tries (ap has is) in
        with_attempts
        (at_is ∙ ap (λ n. waits_until e.timing waits led n a) now_is
        ∙ until-is doc q expiring h failed refl trying a s.attempts e.timing s.timing waits led led_is are
        ∙ ap (λ l. retry_at l doc q expiring h) (sym led_is)
        ∙ sym (timer-expired doc q h k 4 call ∙ ap (λ b. or_else (timer doc q h) (when (not b) (retry_at (leads q h) doc q expiring h))) slow))
        (subst (AttemptsStand doc q (expiring ∷ h)) (sym (tried_is ∙ ap (λ n. after_failure e.timing.retries waits led n a) now_is))
        (attempts-failed doc q expiring h failed refl trying a s.attempts e.timing s.timing waits led led_is are (trying_is ∙ ap (λ b. when (not b || false) false) slow) refl))

  -- what stands after the expiry of the call that waits, stands after the turn's
  pub expiry-stands : (c : Option Call) (e x : Elector) → ElectorStands doc q h e → call_in q h ≡ c → is_late_call doc q k c ≡ true →
      ((call : Call) → c ≡ Some call → ElectorStands doc q (entry k 4 q (Expires call) ∷ h) x) → ElectorStands doc q (expire_call doc k q c h) x
  expiry-stands None e x s is late stands = cc
  expiry-stands (Some call) e x s is late stands =
      subst (λ g. ElectorStands doc q g x) (sym (late_expires doc k q h call (ap (release_of doc) (sym is) ∙ s.slot.ordinary) late)) (stands call refl)

  pub expiry-fast : (c : Option Call) → release_of doc c ≡ None → is_late_call doc q k c ≡ true → is_fast_call (just_expired q k (expire_call doc k q c h)) ≡ is_fast_wait (waiting_in doc q c)
  expiry-fast None ordinary late = cc
  expiry-fast (Some call) ordinary late = ap (λ x. is_fast_call (just_expired q k x)) (late_expires doc k q h call ordinary late) ∙ fast_expired q h k 4 call

  pub expiry-settled : (c : Option Call) → release_of doc c ≡ None → is_late_call doc q k c ≡ true → is_fast_wait (waiting_in doc q c) ≡ false → IsSettled q (expire_call doc k q c h)
  expiry-settled None ordinary late slow = cc
  expiry-settled (Some call) ordinary late slow = subst (λ x. IsSettled q x) (sym (late_expires doc k q h call ordinary late)) (settled-slow q h k 4 call slow)
