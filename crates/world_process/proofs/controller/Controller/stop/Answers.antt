use Rattle.std.proofs.Common.{◌≡◌, true, false, None, sym, ap, ◌∙◌, subst}
use Rattle.kube_objects.specs.Identities.{identity}
use Rattle.kube_objects.specs.Pauses.{is_paused}
use Rattle.world_process.specs.declared.controller.Role.TheVariants as role
use Rattle.world_process.specs.Controllers.{ControllerStands, StoppedAs, is_up_as}
use Rattle.world_process.proofs.Standing.{role-at}
use Rattle.world_process.proofs.Stopping.{stopped-candidate, stopped-down, stopped-paused, stopped-releasing}
use Rattle.world_process.proofs.controller.Controller.stop.Goals as goal

pub returns-then-is_paused-clause-stands : goal.returns-then-is_paused-clause-stands
returns-then-is_paused-clause-stands c doc k id h s at few =
    let self = c.args.self.now in
    let paused : is_paused doc id.0 k ≡ true = ap (is_paused doc id.0) (sym at) ∙ sym (c.is_paused.ensures doc id.0 s.pauses) ∙ c.if-is_paused.true in
    subst (StoppedAs doc k id h self) (sym c.stop_with.ensures) (stopped-paused doc k id h self paused s)

pub returns-in-Down-clause-stands : goal.returns-in-Down-clause-stands
returns-in-Down-clause-stands c doc k id h s at few =
    let self = c.args.self.now in
    let awake : is_paused doc id.0 k ≡ false = ap (is_paused doc id.0) (sym at) ∙ sym (c.is_paused.ensures doc id.0 s.pauses) ∙ c.if-is_paused.false in
    subst (λ r. StoppedAs doc k id h (record self { role = r }) c.stop_with-in-Down.result) (sym c.replace.ensures.after)
    (subst (λ r. StoppedAs doc k id h (record self { role = role.Down None }) r) (sym c.stop_with-in-Down.ensures)
    (stopped-down doc k id h self awake s (ap is_up_as (sym c.replace.ensures.value ∙ c.in-Down.is))))

pub returns-in-Candidate-clause-stands : goal.returns-in-Candidate-clause-stands
returns-in-Candidate-clause-stands c doc k id h s at few =
    let self = c.args.self.now in
    let awake : is_paused doc id.0 k ≡ false = ap (is_paused doc id.0) (sym at) ∙ sym (c.is_paused.ensures doc id.0 s.pauses) ∙ c.if-is_paused.false in
    let was = role-at doc id.0 h self (role.Candidate c.in-Candidate.field-0) s (sym c.replace.ensures.value ∙ c.in-Candidate.is) in
    subst (λ r. StoppedAs doc k id h (record self { role = r }) c.stop_with-in-Candidate.result) (sym c.replace.ensures.after)
    (subst (λ r. StoppedAs doc k id h (record self { role = role.Down None }) r) (sym c.stop_with-in-Candidate.ensures)
    (stopped-candidate doc k id h self awake s c.in-Candidate.field-0 was.0 was.1))

pub returns-in-Leading-clause-stands : goal.returns-in-Leading-clause-stands
returns-in-Leading-clause-stands c doc k id h s at few =
    let self = c.args.self.now in
    let awake : is_paused doc id.0 k ≡ false = ap (is_paused doc id.0) (sym at) ∙ sym (c.is_paused.ensures doc id.0 s.pauses) ∙ c.if-is_paused.false in
    let was = subst (λ r. ControllerStands doc id.0 h (record self { role = r })) (sym c.replace.ensures.value ∙ c.in-Leading.is) s in
    c.give_up.ensures.stands doc k id h was at awake few

pub returns-in-Releasing-clause-stands : goal.returns-in-Releasing-clause-stands
returns-in-Releasing-clause-stands c doc k id h s at few =
    let self = c.args.self.now in
    let q = identity id.0 self.incarnation in
    let awake : is_paused doc id.0 k ≡ false = ap (is_paused doc id.0) (sym at) ∙ sym (c.is_paused.ensures doc id.0 s.pauses) ∙ c.if-is_paused.false in
    let was = role-at doc id.0 h self (role.Releasing c.in-Releasing.releasing) s (sym c.replace.ensures.value ∙ c.in-Releasing.is) in
    subst (λ r. StoppedAs doc k id h (record self { role = role.Releasing c.stop.result }) r) (sym c.stop_with-in-Releasing.ensures)
    (stopped-releasing doc k id h self awake s c.in-Releasing.releasing c.stop.result was.0 was.2 was.1 (λ stands. c.stop.ensures.stands doc q _ k 1 stands))
