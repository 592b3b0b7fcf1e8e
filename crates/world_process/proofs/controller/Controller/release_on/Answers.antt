use Rattle.std.proofs.Common.{◌≡◌, ◌+◌, None, sym, ap, ◌∙◌, subst}
use Rattle.kube_base.specs.declared.numbers.Local.{Local}
use Rattle.kube_objects.specs.Clocks.{local}
use Rattle.kube_objects.specs.Document.{restart_delay}
use Rattle.kube_objects.specs.Identities.{identity}
use Rattle.world_process.specs.declared.controller.Role.TheVariants as role
use Rattle.world_process.specs.Controllers.{Timed}
use Rattle.world_process.proofs.Ending.{releasing-over, releasing-stays}
use Rattle.world_process.proofs.Forgetting.{timed-forgets}
use Rattle.world_process.proofs.Standing.{role-at}
use Rattle.world_process.proofs.controller.Controller.release_on.Goals as goal

pub returns-in-Stay-clause-stands : goal.returns-in-Stay-clause-stands
returns-in-Stay-clause-stands c doc k p h r s runs now delay few =
    let self = c.args.self.now in
    let q = identity p self.incarnation in
    let was = role-at doc p h self (role.Releasing c.in-Releasing.releasing) s (sym c.replace.ensures.value ∙ c.in-Releasing.is) in
    let t = c.in-Stay.ensures.turns doc q h k was.1 was.0 now in
    subst (λ x. Timed doc k p h (record self { role = role.Releasing c.in-Stay.releasing }) x.ended x.ask) (sym c.turn_with-in-Stay.ensures)
    (releasing-stays doc k p h self s was.0 c.in-Stay.releasing was.2 t.0 t.1)

pub returns-in-Ask-clause-stands : goal.returns-in-Ask-clause-stands
returns-in-Ask-clause-stands c doc k p h r s runs now delay few =
    let self = c.args.self.now in
    let was = role-at doc p h self (role.Releasing c.in-Releasing.releasing) s (sym c.replace.ensures.value ∙ c.in-Releasing.is) in
    absurd (c.in-Ask.ensures.turns doc (identity p self.incarnation) h k was.1 was.0 now)

pub returns-in-Over-clause-stands : goal.returns-in-Over-clause-stands
returns-in-Over-clause-stands c doc k p h r s runs now delay few =
    let self = c.args.self.now in
    let q = identity p self.incarnation in
    let was = role-at doc p h self (role.Releasing c.in-Releasing.releasing) s (sym c.replace.ensures.value ∙ c.in-Releasing.is) in
    let t = c.in-Over.ensures.turns doc q h k was.1 was.0 now in
    let at : Local = record { 0 = c.args.now.0 + c.args.delay } in
    let at_is : at.0 ≡ local doc p k + restart_delay doc = ap (λ n. n + c.args.delay) now ∙ ap (λ n. local doc p k + n) delay in
    let over = releasing-over doc k p h self s was.0 c.in-Over.end at t.0 t.1 at_is in
    let down = subst (λ o. Timed doc k p h (record self { role = role.Down o }) c.in-Over.end.acted None) (sym c.restart_after.ensures) over in
    let told = subst (λ x. Timed doc k p h (record self { role = role.Down c.restart_after.result }) x.ended x.ask) (sym c.ends_with.ensures) down in
    timed-forgets doc k p h _ c.forget_term.new.self c.ends_with.result.ended c.ends_with.result.ask c.forget_term.ensures.incarnation (λ g. c.forget_term.ensures.stands doc p g) told
