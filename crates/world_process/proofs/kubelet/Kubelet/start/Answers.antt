use Rattle.std.proofs.Common.{◌≡◌, ◌+◌, ap, ◌∙◌, arith}
use Rattle.kube_objects.specs.Clocks.{local}
use Rattle.kube_objects.specs.Identities.{identity}
use Rattle.kube_objects.specs.Process.{starts}
use Rattle.world_process.proofs.Kubelets.{kubelet-started}
use Rattle.world_process.proofs.Readings.{reading-local}
use Rattle.world_process.proofs.Unheard.{begun-unheard}
use Rattle.world_process.proofs.kubelet.Kubelet.start.Goals as goal

pub returns-clause-stands : goal.returns-clause-stands
returns-clause-stands c doc n k step p h s at plain few =
    let self = c.args.self.now in
    let q = identity p (starts p h + 1) in
    let i : c.saturating_add-incarnation.result ≡ starts p h + 1 = omega (arith, s.incarnation, few, c.saturating_add-incarnation.ensures) in
    let now : c.local-now.result.0 ≡ local doc p k = c.local-now.ensures.value ∙ reading-local doc p c.args.beat.0 self.clock s.clock ∙ ap (local doc p) at in
    kubelet-started doc k step p c.saturating_add-incarnation.result h self c.start.result s i
    (c.start.ensures.stands doc q h k step s.node i s.lease s.timeout now (begun-unheard q h (plain.fresh p (starts p h + 1) (omega arith))))
