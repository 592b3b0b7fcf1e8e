use Rattle.std.proofs.Common.{◌≡◌, ◌+◌, not, true, Some, sym, ap, ◌∙◌, subst}
use Rattle.kube_base.specs.declared.numbers.Local.{Local}
use Rattle.kube_objects.specs.Clocks.{local}
use Rattle.kube_objects.specs.Elector.{acts_by}
use Rattle.kube_objects.specs.Identities.{identity}
use Rattle.kube_objects.specs.Turns.{expired}
use Rattle.world_process.specs.declared.controller.Role.TheVariants as role
use Rattle.world_process.specs.Controllers.{Timed}
use Rattle.world_process.proofs.Forgetting.{timed-forgets}
use Rattle.world_process.proofs.Standing.{role-at}
use Rattle.world_process.proofs.Ending.{acts-at-deadline, leading-ends, leading-releases}
use Rattle.world_process.proofs.Timers.{leading-stays, leading-asks}
use Rattle.world_process.proofs.controller.Controller.lead_on.Goals as goal

pub returns-in-Stay-clause-stands : goal.returns-in-Stay-clause-stands
returns-in-Stay-clause-stands c doc k p h l s leads now wall delay few =
    let self = c.args.self.now in
    let q = identity p self.incarnation in
    let was = role-at doc p h self (role.Leading c.in-Leading.leading) s (sym c.replace.ensures.value ∙ c.in-Leading.is) in
    let t = c.in-Stay.ensures.turns doc q h k was.1 now wall (few.calls q) in
    subst (λ r. Timed doc k p h (record self { role = role.Leading c.in-Stay.leading }) r.ended r.ask) (sym c.turn_with-in-Stay.ensures) (leading-stays doc k p h self s was.0 was.1.elector.slot.ordinary c.in-Stay.leading t.0 t.1 t.2)

pub returns-in-Ask-clause-stands : goal.returns-in-Ask-clause-stands
returns-in-Ask-clause-stands c doc k p h l s leads now wall delay few =
    let self = c.args.self.now in
    let q = identity p self.incarnation in
    let was = role-at doc p h self (role.Leading c.in-Leading.leading) s (sym c.replace.ensures.value ∙ c.in-Leading.is) in
    let t = c.in-Ask.ensures.turns doc q h k was.1 now wall (few.calls q) in
    subst (λ r. Timed doc k p h (record self { role = role.Leading c.in-Ask.leading }) r.ended r.ask) (sym c.turn_with-in-Ask.ensures) (leading-asks doc k p h self s was.0 was.1.elector.slot.ordinary c.in-Ask.leading c.in-Ask.ask t.0 t.1)

pub returns-in-End-clause-stands : goal.returns-in-End-clause-stands
returns-in-End-clause-stands c doc k p h l s leads now wall delay few =
    let self = c.args.self.now in
    let q = identity p self.incarnation in
    let was = role-at doc p h self (role.Leading c.in-Leading.leading) s (sym c.replace.ensures.value ∙ c.in-Leading.is) in
    let t = c.in-End.ensures.turns doc q h k was.1 now wall (few.calls q) in
    let back : Local = record { 0 = c.args.now.0 + c.args.delay } in
    let over = subst (λ r. Timed doc k p h (record self { role = role.Down (Some back) }) r.ended r.ask) (sym c.ends_with.ensures) (leading-ends doc k p h self s was.0 was.1.elector.slot.ordinary back t.0 (ap (λ n. n + c.args.delay) now ∙ ap (λ n. local doc p k + n) delay)) in
    timed-forgets doc k p h (record self { role = role.Down (Some back) }) c.forget_term.new.self c.ends_with.result.ended c.ends_with.result.ask c.forget_term.ensures.incarnation (λ g. c.forget_term.ensures.stands doc p g) over

pub returns-in-Release-clause-stands : goal.returns-in-Release-clause-stands
returns-in-Release-clause-stands c doc k p h l s leads now wall delay few =
    let self = c.args.self.now in
    let q = identity p self.incarnation in
    let was = role-at doc p h self (role.Leading c.in-Leading.leading) s (sym c.replace.ensures.value ∙ c.in-Leading.is) in
    let t = c.in-Release.ensures.turns doc q h k was.1 now wall (few.calls q) in
    let next = c.in-Release.releasing in
    let acts : c.acts-ended.result ≡ acts_by doc.settings.rules.in_release true = c.acts-ended.ensures.plain ∙ acts-at-deadline doc k p self.incarnation (expired doc k q h) next c.in-Release.ask t in
    subst (λ r. Timed doc k p h (record self { role = role.Releasing next }) r.ended r.ask) (sym c.begins_release.ensures)
    (leading-releases doc k p h self s was.0 was.1.elector.slot.ordinary next c.in-Release.ask (not c.acts-ended.result) was.1.leads (ap not acts) t)
