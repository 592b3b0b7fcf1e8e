use Rattle.std.proofs.Common.{Some, None, false, sym, subst}
use Rattle.kube_objects.specs.Identities.{identity}
use Rattle.world_process.specs.Kubelets.{Replied}
use Rattle.world_process.proofs.Answering.{is-back}
use Rattle.world_process.proofs.Kubelets.{rounds-at}
use Rattle.world_process.proofs.Readings.{readings-are}
use Rattle.world_process.proofs.Rounds.{kubelet-answers, kubelet-replied-down, kubelet-replied-other}
use Rattle.world_process.proofs.kubelet.Kubelet.receive.Goals as goal

pub returns-then-incarnation-self-clause-stands : goal.returns-then-incarnation-self-clause-stands
returns-then-incarnation-self-clause-stands c doc k p b h s at who number reply few =
    subst (λ r. Replied doc k p b h c.args.self.now r) (sym c.stays.ensures)
    (kubelet-replied-other doc k p c.args.incarnation b c.args.number c.args.reply.now h c.args.self.now s (record { who = who; number = number; reply = reply }) c.if-incarnation-self.true)

pub returns-in-None-clause-stands : goal.returns-in-None-clause-stands
returns-in-None-clause-stands c doc k p b h s at who number reply few =
    let self = c.args.self.now in
    let back = is-back b p c.args.incarnation self.incarnation c.args.number c.args.reply.now who c.if-incarnation-self.false number reply in
    let down = rounds-at doc p h self None s c.in-None.is in
    subst (λ r. Replied doc k p b h (record self { rounds = self.rounds }) r) (sym c.stays-in-None.ensures)
    (subst (λ x. Replied doc k p b h (record self { rounds = x }) (record { lead = None; ended = false; ask = None })) (sym c.in-None.is) (kubelet-replied-down doc k p b c.args.number c.args.reply.now h self s down back))

pub returns-in-Some-clause-stands : goal.returns-in-Some-clause-stands
returns-in-Some-clause-stands c doc k p b h s at who number reply few =
    let self = c.args.self.now in
    let q = identity p self.incarnation in
    let reads = readings-are doc p k c.args.beat.0 c.local-now.result.0 c.wall_at-wall.result.0 self.clock s.clock at c.local-now.ensures.value c.wall_at-wall.ensures.value in
    let back = is-back b p c.args.incarnation self.incarnation c.args.number c.args.reply.now who c.if-incarnation-self.false number reply in
    let was = rounds-at doc p h self (Some c.in-Some.rounds) s c.in-Some.is in
    subst (λ r. Replied doc k p b h (record self { rounds = Some c.on_reply.new.self }) r) (sym c.effect_with.ensures)
    (kubelet-answers doc k p b c.args.number c.args.reply.now h self c.on_reply.new.self s was.0 back c.on_reply.result
    (λ none call. c.on_reply.ensures.uncounted doc q h k was.1 reads.now was.0 none call)
    (λ call some. c.on_reply.ensures.counts doc q h k call was.1 reads.now reads.wall (few.calls q) some))
