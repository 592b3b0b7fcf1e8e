use Rattle.std.proofs.Common.{None, false, sym, ap, ◌∙◌, subst}
use Rattle.std.specs.Box.{with_value}
use Rattle.kube_objects.specs.Identities.{identity}
use Rattle.kube_objects.specs.Turns.{with_reply}
use Rattle.controller_core.specs.TermStands.{TermStands}
use Rattle.leader_elector.specs.Stands.{AreWaitsOf, CandidateStands, LeadingStands}
use Rattle.world_process.specs.declared.controller.Role.TheVariants as role
use Rattle.world_process.specs.Controllers.{Replied}
use Rattle.world_process.proofs.Answering.{is-back, answers-stays, answers-asks, answers-leads, replied-other, replied-down}
use Rattle.world_process.proofs.Readings.{readings-are}
use Rattle.world_process.proofs.Standing.{role-at}
use Rattle.world_process.proofs.controller.Controller.receive.Goals as goal

pub returns-then-incarnation-self-clause-stands : goal.returns-then-incarnation-self-clause-stands
returns-then-incarnation-self-clause-stands c doc k p b h s at who number reply delay few =
    subst (λ r. Replied doc k p b h c.args.self.now r) (sym c.stays.ensures) (replied-other doc k p c.args.incarnation b c.args.number c.args.reply.now h c.args.self.now s (record { who = who; number = number; reply = reply }) c.if-incarnation-self.true)

pub returns-in-Down-clause-stands : goal.returns-in-Down-clause-stands
returns-in-Down-clause-stands c doc k p b h s at who number reply delay few =
    let self = c.args.self.now in
    let back = is-back b p c.args.incarnation self.incarnation c.args.number c.args.reply.now who c.if-incarnation-self.false number reply in
    subst (λ r. Replied doc k p b h (record self { role = self.role }) r) (sym c.stays-in-Down.ensures) (subst (λ x. Replied doc k p b h (record self { role = x }) (record { lead = None; ended = false; ask = None })) (sym c.in-Down.is) (replied-down doc k p b c.args.number c.args.reply.now h self c.in-Down.field-0 s c.in-Down.is back))

pub returns-in-Stays-clause-stands : goal.returns-in-Stays-clause-stands
returns-in-Stays-clause-stands c doc k p b h s at who number reply delay few =
    let self = c.args.self.now in
    let q = identity p self.incarnation in
    let reads = readings-are doc p k c.args.beat.0 c.local-now.result.0 c.wall_at-wall.result.0 self.clock s.clock at c.local-now.ensures.value c.wall_at-wall.ensures.value in
    let was = role-at doc p h self (role.Candidate c.in-Candidate.candidate) s c.in-Candidate.is in
    let back = is-back b p c.args.incarnation self.incarnation c.args.number c.args.reply.now who c.if-incarnation-self.false number reply in
    subst (λ r. Replied doc k p b h (record self { role = role.Candidate c.hear.new.self }) r) (sym c.stays-in-Stays.ensures) (answers-stays doc k p b c.args.number c.args.reply.now h self s back was.0 was.1.elector.slot.ordinary (role.Candidate c.hear.new.self) (λ g. CandidateStands doc q g c.hear.new.self) (λ g up stands. (up, stands))
    (λ off call. (c.in-Stays.ensures.uncounted doc q h k was.1 reads.now was.0 off call).1)
    (λ call some. c.in-Stays.ensures.counts doc q h k call was.1 (subst (AreWaitsOf doc p) (sym c.as_slice-waits.ensures.each) s.waits) reads.now reads.wall (few.calls q) some))

pub returns-in-Asks-clause-stands : goal.returns-in-Asks-clause-stands
returns-in-Asks-clause-stands c doc k p b h s at who number reply delay few =
    let self = c.args.self.now in
    let q = identity p self.incarnation in
    let reads = readings-are doc p k c.args.beat.0 c.local-now.result.0 c.wall_at-wall.result.0 self.clock s.clock at c.local-now.ensures.value c.wall_at-wall.ensures.value in
    let was = role-at doc p h self (role.Candidate c.in-Candidate.candidate) s c.in-Candidate.is in
    let back = is-back b p c.args.incarnation self.incarnation c.args.number c.args.reply.now who c.if-incarnation-self.false number reply in
    subst (λ r. Replied doc k p b h (record self { role = role.Candidate c.hear.new.self }) r) (sym c.asks.ensures) (answers-asks doc k p b c.args.number c.args.reply.now h self s back was.0 was.1.elector.slot.ordinary (role.Candidate c.hear.new.self) c.in-Asks.ask (λ g. CandidateStands doc q g c.hear.new.self) (λ g up stands. (up, stands))
    (λ off. let no = (c.in-Asks.ensures.uncounted doc q h k was.1 reads.now was.0 off b.call).0 in cc)
    (λ call some. c.in-Asks.ensures.counts doc q h k call was.1 (subst (AreWaitsOf doc p) (sym c.as_slice-waits.ensures.each) s.waits) reads.now reads.wall (few.calls q) some))

pub returns-in-Wins-clause-stands : goal.returns-in-Wins-clause-stands
returns-in-Wins-clause-stands c doc k p b h s at who number reply delay few =
    let self = c.args.self.now in
    let q = identity p self.incarnation in
    let reads = readings-are doc p k c.args.beat.0 c.local-now.result.0 c.wall_at-wall.result.0 self.clock s.clock at c.local-now.ensures.value c.wall_at-wall.ensures.value in
    let was = role-at doc p h self (role.Candidate c.in-Candidate.candidate) s c.in-Candidate.is in
    let back = is-back b p c.args.incarnation self.incarnation c.args.number c.args.reply.now who c.if-incarnation-self.false number reply in
    let led = role.Leading c.lead.result in
    let term = c.lead-in-Wins.new.self in
    let new = record self { role = led; term = with_value self.term term } in
    subst (λ b'. Replied doc k p b h new (record { lead = c.leads.result.lead; ended = b'; ask = c.leads.result.ask })) (sym c.leads.ensures.goes_on)
    (subst (λ a. Replied doc k p b h new (record { lead = c.leads.result.lead; ended = false; ask = a })) (sym c.leads.ensures.none)
    (answers-leads doc k p b c.args.number c.args.reply.now h self s back was.0 was.1.elector.slot.ordinary led term c.leads.result.lead (λ g. LeadingStands doc q g c.lead.result) (λ g up stands. (up, stands))
    (λ version g stands. c.lead-in-Wins.ensures doc k 3 q version g (subst (TermStands doc q g) (sym c.deref_mut.ensures.value) stands) reads.now) c.leads.ensures.lead
    (λ off. let no = (c.in-Wins.ensures.uncounted doc q h k was.1 reads.now was.0 off b.call).0 in cc)
    (λ call some.
    let t = c.in-Wins.ensures.counts doc q h k call was.1 (subst (AreWaitsOf doc p) (sym c.as_slice-waits.ensures.each) s.waits) reads.now reads.wall (few.calls q) some in
    (t.0, t.1, subst (λ g. LeadingStands doc q g c.lead.result) (sym t.1) (c.lead.ensures.stands doc q (with_reply k q call c.args.reply.now h) k 3 t.0 t.2)))))

pub returns-in-Leading-clause-stands : goal.returns-in-Leading-clause-stands
returns-in-Leading-clause-stands c doc k p b h s at who number reply delay few =
    let self = c.args.self.now in
    let reads = readings-are doc p k c.args.beat.0 c.local-now.result.0 c.wall_at-wall.result.0 self.clock s.clock at c.local-now.ensures.value c.wall_at-wall.ensures.value in
    c.hear-in-Leading.ensures.stands doc k p b h c.in-Leading.field-0 s c.in-Leading.is reads.now reads.wall (who ∙ ap (identity p) c.if-incarnation-self.false) number reply few

pub returns-in-Releasing-clause-stands : goal.returns-in-Releasing-clause-stands
returns-in-Releasing-clause-stands c doc k p b h s at who number reply delay few =
    let self = c.args.self.now in
    let reads = readings-are doc p k c.args.beat.0 c.local-now.result.0 c.wall_at-wall.result.0 self.clock s.clock at c.local-now.ensures.value c.wall_at-wall.ensures.value in
    c.hear_in_release.ensures.stands doc k p b h c.in-Releasing.field-0 s c.in-Releasing.is reads.now reads.wall (who ∙ ap (identity p) c.if-incarnation-self.false) number reply delay few
