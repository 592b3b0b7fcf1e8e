use Rattle.std.proofs.Common.{◌≡◌, ◌∙◌, sym, ap, subst, false, true, refl}
use Rattle.kube_objects.specs.Process.{call_in}
use Rattle.kube_objects.specs.Turns.{just_expired, is_fast_call}
use Rattle.kube_objects.proofs.OwnCalls.{none_late}
use Rattle.leader_elector.specs.Stands.{ElectorStands, IsSettled, is_fast_wait, waiting_in, waiting_of}
use Rattle.leader_elector.proofs.Expiry.{expiry-failed, expiry-lost, expiry-stands, expiry-fast, expiry-settled}
use Rattle.leader_elector.proofs.elector.Elector.expire.Goals as goal

pub returns-then-not-expired-clause-stands : goal.returns-then-not-expired-clause-stands
returns-then-not-expired-clause-stands c doc q h k s led waits now =
    subst (λ x. ElectorStands doc q x c.args.self.now) (sym (none_late doc k q h (call_in q h) (sym (c.if-not-expired.ensures.call doc q h k s.slot now s.timing.timeout)))) s

pub returns-then-not-expired-clause-fast : goal.returns-then-not-expired-clause-fast
returns-then-not-expired-clause-fast c doc q h k s settled now =
    sym (ap (λ x. is_fast_call (just_expired q k x)) (none_late doc k q h (call_in q h) (sym (c.if-not-expired.ensures.call doc q h k s.slot now s.timing.timeout))) ∙ settled k)

pub returns-then-not-expired-clause-settled : goal.returns-then-not-expired-clause-settled
returns-then-not-expired-clause-settled c doc q h k s settled now slow =
    subst (λ x. IsSettled q x) (sym (none_late doc k q h (call_in q h) (sym (c.if-not-expired.ensures.call doc q h k s.slot now s.timing.timeout)))) settled

pub returns-then-not-fast-clause-stands : goal.returns-then-not-fast-clause-stands
returns-then-not-fast-clause-stands c doc q h k s led waits now =
    let self = c.args.self.now in
    let slow : is_fast_wait (waiting_of self.waiting) ≡ false = sym c.is_fast-fast.ensures ∙ c.if-not-fast.true in
    expiry-stands doc k q h (call_in q h) self _ s refl
    (sym (c.expired.ensures.call doc q h k s.slot now s.timing.timeout) ∙ c.if-not-expired.false)
    (λ call is. expiry-failed doc k q h call self c.finish.new.self _ _ s is (c.finish.ensures.expired doc q h k 4 call s.slot) c.args.waits.now c.args.led c.args.now.0
    (sym (ap is_fast_wait (s.waiting ∙ ap (waiting_in doc q) is)) ∙ slow) led waits now c.fail-self.ensures.until c.fail-self.ensures.kept)

pub returns-else-not-fast-clause-stands : goal.returns-else-not-fast-clause-stands
returns-else-not-fast-clause-stands c doc q h k s led waits now =
    let self = c.args.self.now in
    let fast : is_fast_wait (waiting_of self.waiting) ≡ true = sym c.is_fast-fast.ensures ∙ c.if-not-fast.false in
    expiry-stands doc k q h (call_in q h) self _ s refl
    (sym (c.expired.ensures.call doc q h k s.slot now s.timing.timeout) ∙ c.if-not-expired.false)
    (λ call is. expiry-lost doc k q h call self c.finish.new.self _ _ s is (c.finish.ensures.expired doc q h k 4 call s.slot)
    (sym (ap is_fast_wait (s.waiting ∙ ap (waiting_in doc q) is)) ∙ fast) refl refl)

pub returns-else-not-fast-clause-fast : goal.returns-else-not-fast-clause-fast
returns-else-not-fast-clause-fast c doc q h k s settled now =
    c.is_fast-fast.ensures ∙ ap is_fast_wait s.waiting ∙ sym (expiry-fast doc k q h (call_in q h) s.slot.ordinary (sym (c.expired.ensures.call doc q h k s.slot now s.timing.timeout) ∙ c.if-not-expired.false))

pub returns-then-not-fast-clause-fast : goal.returns-then-not-fast-clause-fast
returns-then-not-fast-clause-fast c doc q h k s settled now =
    c.is_fast-fast.ensures ∙ ap is_fast_wait s.waiting ∙ sym (expiry-fast doc k q h (call_in q h) s.slot.ordinary (sym (c.expired.ensures.call doc q h k s.slot now s.timing.timeout) ∙ c.if-not-expired.false))

pub returns-then-not-fast-clause-settled : goal.returns-then-not-fast-clause-settled
returns-then-not-fast-clause-settled c doc q h k s settled now slow =
    expiry-settled doc k q h (call_in q h) s.slot.ordinary (sym (c.expired.ensures.call doc q h k s.slot now s.timing.timeout) ∙ c.if-not-expired.false) (sym (ap is_fast_wait s.waiting) ∙ sym c.is_fast-fast.ensures ∙ slow)
