use Rattle.std.proofs.Common.{Some, None, sym, subst}
use Rattle.kube_objects.specs.Identities.{identity}
use Rattle.history.specs.Steps.{kubelet_turn}
use Rattle.world_process.specs.Kubelets.{Turned}
use Rattle.world_process.proofs.Grows.{few-before, grows-kubelet_turn}
use Rattle.world_process.proofs.Kubelets.{rounds-at}
use Rattle.world_process.proofs.Readings.{readings-are}
use Rattle.world_process.proofs.Rounds.{kubelet-still, kubelet-turned}
use Rattle.world_process.proofs.kubelet.Kubelet.turn.Goals as goal

pub returns-in-None-clause-stands : goal.returns-in-None-clause-stands
returns-in-None-clause-stands c doc k p h s at status few =
    let self = c.args.self.now in
    let down = rounds-at doc p h self None s c.in-None.is in
    subst (λ t. Turned doc k p h self t) (sym c.turn_with.ensures) (kubelet-still doc k p h self s down)

pub returns-in-Some-clause-stands : goal.returns-in-Some-clause-stands
returns-in-Some-clause-stands c doc k p h s at status few =
    let self = c.args.self.now in
    let reads = readings-are doc p k c.args.beat.0 c.local-now.result.0 c.wall_at-wall.result.0 self.clock s.clock at c.local-now.ensures.value c.wall_at-wall.ensures.value in
    let was = rounds-at doc p h self (Some c.in-Some.rounds) s c.in-Some.is in
    let q = identity p self.incarnation in
    let calls = (few-before h (kubelet_turn doc k p h) (grows-kubelet_turn doc k p h) few).calls q in
    subst (λ t. Turned doc k p h (record self { rounds = Some c.on_timer.new.self }) t) (sym c.turn_with-in-Some.ensures)
    (kubelet-turned doc k p h self s was.0 was.1.call.slot.ordinary c.on_timer.new.self c.on_timer.result (c.on_timer.ensures.turns doc q h k was.1 reads.now reads.wall status calls))
