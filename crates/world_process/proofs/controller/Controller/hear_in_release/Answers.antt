use Rattle.std.proofs.Common.{◌≡◌, ◌+◌, None, sym, ap, ◌∙◌, subst}
use Rattle.kube_base.specs.declared.numbers.Local.{Local}
use Rattle.kube_objects.specs.Clocks.{local}
use Rattle.kube_objects.specs.Document.{restart_delay}
use Rattle.kube_objects.specs.Identities.{identity}
use Rattle.world_process.specs.declared.controller.Role.TheVariants as role
use Rattle.world_process.specs.Controllers.{Replied}
use Rattle.world_process.proofs.Answering.{IsBack, releases-asks, releases-over, releases-stays}
use Rattle.world_process.proofs.Forgetting.{replied-forgets}
use Rattle.world_process.proofs.Standing.{role-at}
use Rattle.world_process.proofs.controller.Controller.hear_in_release.Goals as goal

pub returns-in-Stay-clause-stands : goal.returns-in-Stay-clause-stands
returns-in-Stay-clause-stands c doc k p b h r s runs now wall who number reply delay few =
    let self = c.args.self.now in
    let q = identity p self.incarnation in
    let was = role-at doc p h self (role.Releasing c.in-Releasing.releasing) s (sym c.replace.ensures.value ∙ c.in-Releasing.is) in
    let back : IsBack b q c.args.number c.args.reply = record { who = who; number = number; reply = reply } in
    subst (λ x. Replied doc k p b h (record self { role = role.Releasing c.in-Stay.releasing }) x) (sym c.stays-in-Stay.ensures)
    (releases-stays doc k p b c.args.number c.args.reply h self s back was.0 c.in-Releasing.releasing was.1 c.in-Stay.releasing was.2
    (λ off. c.in-Stay.ensures.uncounted doc q h k was.1 now was.0 off)
    (λ call some. c.in-Stay.ensures.counts doc q h k call was.1 now wall (few.calls q) was.0 some))

pub returns-in-Ask-clause-stands : goal.returns-in-Ask-clause-stands
returns-in-Ask-clause-stands c doc k p b h r s runs now wall who number reply delay few =
    let self = c.args.self.now in
    let q = identity p self.incarnation in
    let was = role-at doc p h self (role.Releasing c.in-Releasing.releasing) s (sym c.replace.ensures.value ∙ c.in-Releasing.is) in
    let back : IsBack b q c.args.number c.args.reply = record { who = who; number = number; reply = reply } in
    subst (λ x. Replied doc k p b h (record self { role = role.Releasing c.in-Ask.releasing }) x) (sym c.asks.ensures)
    (releases-asks doc k p b c.args.number c.args.reply h self s back was.0 c.in-Releasing.releasing was.1 c.in-Ask.releasing c.in-Ask.ask was.2
    (λ off. c.in-Ask.ensures.uncounted doc q h k was.1 now was.0 off b.call)
    (λ call some. c.in-Ask.ensures.counts doc q h k call was.1 now wall (few.calls q) was.0 some))

pub returns-in-Over-clause-stands : goal.returns-in-Over-clause-stands
returns-in-Over-clause-stands c doc k p b h r s runs now wall who number reply delay few =
    let self = c.args.self.now in
    let q = identity p self.incarnation in
    let was = role-at doc p h self (role.Releasing c.in-Releasing.releasing) s (sym c.replace.ensures.value ∙ c.in-Releasing.is) in
    let back : IsBack b q c.args.number c.args.reply = record { who = who; number = number; reply = reply } in
    let at : Local = record { 0 = c.args.now.0 + c.args.delay } in
    let at_is : at.0 ≡ local doc p k + restart_delay doc = ap (λ n. n + c.args.delay) now ∙ ap (λ n. local doc p k + n) delay in
    let over = releases-over doc k p b c.args.number c.args.reply h self s back was.0 c.in-Releasing.releasing was.1 c.in-Over.end at at_is
    (λ off. c.in-Over.ensures.uncounted doc q h k was.1 now was.0 off b.call)
    (λ call some. c.in-Over.ensures.counts doc q h k call was.1 now wall (few.calls q) was.0 some) in
    let down = subst (λ o. Replied doc k p b h (record self { role = role.Down o }) (record { lead = None; ended = c.in-Over.end.acted; ask = None })) (sym c.restart_after.ensures) over in
    subst (λ x. Replied doc k p b h c.forget_term.new.self x) (sym c.ends.ensures)
    (replied-forgets doc k p b h _ c.forget_term.new.self c.in-Over.end.acted c.forget_term.ensures.incarnation (λ g. c.forget_term.ensures.stands doc p g) down)
