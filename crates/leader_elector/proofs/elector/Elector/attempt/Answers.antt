use Rattle.std.proofs.Common.{◌≡◌, ◌∙◌, ◌≤◌, ◌&&◌, not, nat_lt, true, sym, subst}
use Rattle.kube_objects.specs.Clocks.{local}
use Rattle.kube_objects.specs.Elector.{timer}
use Rattle.kube_objects.specs.Newest.{has}
use Rattle.kube_objects.specs.Process.{call_in}
use Rattle.leader_elector.specs.Moves.{Asked}
use Rattle.leader_elector.specs.Stands.{ElectorStands}
use Rattle.leader_elector.proofs.Beginning.{due, try-due, try-fast}
use Rattle.leader_elector.proofs.elector.Elector.attempt.Goals as goal

pub returns-then-expired-clause-history : goal.returns-then-expired-clause-history
returns-then-expired-clause-history c doc q h k s led expired now wall room =
    c.ask.ensures.history doc q h _ k 4 s now room (try-fast doc k q h (sym expired ∙ c.if-expired.true))

pub returns-clause-history : goal.returns-clause-history
returns-clause-history c doc q h k s led expired now wall room =
    let reached : timer doc q h ≤ local doc q.process k = subst (λ x. x ≤ local doc q.process k) s.timer (subst (λ x. c.args.self.now.timer.0 ≤ x) now c.if-now-self.false) in
    let ready : (not (has (call_in q h)) && not (nat_lt (local doc q.process k) (timer doc q h))) ≡ true = due _ _ _ (sym (c.is_idle.ensures.call doc q h s.slot) ∙ c.if-not-is_idle.false) reached in
    subst (λ x. Asked doc k 4 q h x (λ y. ElectorStands doc q y c.begin.new.self) c.begin.result) (sym (try-due doc k q h (sym expired ∙ c.if-expired.false) ready)) (c.begin.ensures.history doc q h k s led now wall room)
