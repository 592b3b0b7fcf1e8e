use Rattle.std.proofs.Common.{sym, ◌∙◌, subst}
use Rattle.kube_objects.specs.Identities.{identity}
use Rattle.leader_elector.specs.Stands.{LeadingStands}
use Rattle.world_process.specs.declared.controller.Role.TheVariants as role
use Rattle.world_process.specs.Controllers.{Replied}
use Rattle.world_process.proofs.Answering.{IsBack, answers-stays, answers-asks, counted-or}
use Rattle.world_process.proofs.Readings.{clock-is, next-at}
use Rattle.world_process.proofs.Standing.{role-at}
use Rattle.world_process.proofs.controller.Controller.hear.Goals as goal

pub returns-in-Stay-clause-stands : goal.returns-in-Stay-clause-stands
returns-in-Stay-clause-stands c doc k p b h l s leads now wall who number reply few =
    let self = c.args.self.now in
    let q = identity p self.incarnation in
    let was = role-at doc p h self (role.Leading c.in-Leading.leading) s (sym c.replace.ensures.value ∙ c.in-Leading.is) in
    let back : IsBack b q c.args.number c.args.reply = record { who = who; number = number; reply = reply } in
    subst (λ r. Replied doc k p b h (record self { role = role.Leading c.in-Stay.leading }) r) (sym c.stays-in-Stay.ensures) (answers-stays doc k p b c.args.number c.args.reply h self s back was.0 was.1.elector.slot.ordinary (role.Leading c.in-Stay.leading) (λ g. LeadingStands doc q g c.in-Stay.leading) (λ g up stands. (up, stands))
    (λ off. c.in-Stay.ensures.uncounted doc q h k was.1 now was.0 off)
    (λ call some. c.in-Stay.ensures.counts doc q h k call was.1 now (next-at doc p k c.args.now.0 c.can_at-next.result.0 self.timing s.timing now (c.can_at-next.ensures.value doc p s.pauses (clock-is doc p self.clock s.clock))) wall (few.calls q) some))

pub returns-in-Ask-clause-stands : goal.returns-in-Ask-clause-stands
returns-in-Ask-clause-stands c doc k p b h l s leads now wall who number reply few =
    let self = c.args.self.now in
    let q = identity p self.incarnation in
    let was = role-at doc p h self (role.Leading c.in-Leading.leading) s (sym c.replace.ensures.value ∙ c.in-Leading.is) in
    let back : IsBack b q c.args.number c.args.reply = record { who = who; number = number; reply = reply } in
    subst (λ r. Replied doc k p b h (record self { role = role.Leading c.in-Ask.leading }) r) (sym c.asks.ensures) (answers-asks doc k p b c.args.number c.args.reply h self s back was.0 was.1.elector.slot.ordinary (role.Leading c.in-Ask.leading) c.in-Ask.ask (λ g. LeadingStands doc q g c.in-Ask.leading) (λ g up stands. (up, stands))
    (λ off. c.in-Ask.ensures.uncounted doc q h k was.1 now was.0 off b.call)
    (λ call some. c.in-Ask.ensures.counts doc q h k call was.1 now (next-at doc p k c.args.now.0 c.can_at-next.result.0 self.timing s.timing now (c.can_at-next.ensures.value doc p s.pauses (clock-is doc p self.clock s.clock))) wall (few.calls q) some))

pub returns-in-End-clause-stands : goal.returns-in-End-clause-stands
returns-in-End-clause-stands c doc k p b h l s leads now wall who number reply few =
    let self = c.args.self.now in
    let q = identity p self.incarnation in
    let was = role-at doc p h self (role.Leading c.in-Leading.leading) s (sym c.replace.ensures.value ∙ c.in-Leading.is) in
    let back : IsBack b q c.args.number c.args.reply = record { who = who; number = number; reply = reply } in
    absurd (counted-or doc k q c.args.number h
    (λ off. c.in-End.ensures.uncounted doc q h k was.1 now was.0 off b.call)
    (λ call some. c.in-End.ensures.counts doc q h k call was.1 now (next-at doc p k c.args.now.0 c.can_at-next.result.0 self.timing s.timing now (c.can_at-next.ensures.value doc p s.pauses (clock-is doc p self.clock s.clock))) wall (few.calls q) some))

pub returns-in-Release-clause-stands : goal.returns-in-Release-clause-stands
returns-in-Release-clause-stands c doc k p b h l s leads now wall who number reply few =
    let self = c.args.self.now in
    let q = identity p self.incarnation in
    let was = role-at doc p h self (role.Leading c.in-Leading.leading) s (sym c.replace.ensures.value ∙ c.in-Leading.is) in
    let back : IsBack b q c.args.number c.args.reply = record { who = who; number = number; reply = reply } in
    absurd (counted-or doc k q c.args.number h
    (λ off. c.in-Release.ensures.uncounted doc q h k was.1 now was.0 off b.call)
    (λ call some. c.in-Release.ensures.counts doc q h k call was.1 now (next-at doc p k c.args.now.0 c.can_at-next.result.0 self.timing s.timing now (c.can_at-next.ensures.value doc p s.pauses (clock-is doc p self.clock s.clock))) wall (few.calls q) some))
