use Rattle.std.proofs.Common.{◌≡◌, ◌∙◌, nat_lt, true, false, cond, ap, subst, sym}
use Rattle.kube_objects.specs.Clocks.{local}
use Rattle.kube_objects.specs.Elector.{timer}
use Rattle.kube_objects.specs.Process.{call_in}
use Rattle.leader_elector.specs.Moves.{IsLeast, leading_turn, wake_before, wake_from}
use Rattle.leader_elector.proofs.Beginning.{before, reached}
use Rattle.leader_elector.proofs.Wakes.{leading-least}
use Rattle.leader_elector.proofs.leading.Leading.wake.Goals as goal

pub returns-then-self-wake-clause-least : goal.returns-then-self-wake-clause-least
returns-then-self-wake-clause-least c doc q h k s =
    let at = c.args.self.now.deadline.0 in
    let wake = wake_from doc q (timer doc q h) (call_in q h) in
    let sooner : nat_lt at wake ≡ true = ap (nat_lt at) (sym (c.wake-wake.ensures.history doc q h s.elector)) ∙ before at c.wake-wake.result.0 c.if-self-wake.true in
    subst (λ n. IsLeast n (local doc q.process k) h (leading_turn doc k q h))
    (ap (wake_before wake) (sym s.deadline) ∙ ap (λ b. cond b at wake) sooner)
    (leading-least doc k q h at s.elector.slot.ordinary s.unreleased s.settled s.deadline)

pub returns-else-self-wake-clause-least : goal.returns-else-self-wake-clause-least
returns-else-self-wake-clause-least c doc q h k s =
    let at = c.args.self.now.deadline.0 in
    let wake = wake_from doc q (timer doc q h) (call_in q h) in
    let later : nat_lt at wake ≡ false = ap (nat_lt at) (sym (c.wake-wake.ensures.history doc q h s.elector)) ∙ reached at c.wake-wake.result.0 c.if-self-wake.false in
    subst (λ n. IsLeast n (local doc q.process k) h (leading_turn doc k q h))
    (ap (wake_before wake) (sym s.deadline) ∙ ap (λ b. cond b at wake) later ∙ sym (c.wake-wake.ensures.history doc q h s.elector))
    (leading-least doc k q h at s.elector.slot.ordinary s.unreleased s.settled s.deadline)
