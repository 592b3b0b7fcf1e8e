use Rattle.std.proofs.Common.{None, sym, subst}
use Rattle.world_process.specs.Kubelets.{Crashed}
use Rattle.world_process.proofs.Kubelets.{kubelet-crashed}
use Rattle.world_process.proofs.kubelet.Kubelet.crash.Goals as goal

pub returns-clause-stands : goal.returns-clause-stands
returns-clause-stands c doc k id h s =
    let self = c.args.self.now in
    subst (Crashed doc k id h (record self { rounds = None })) (sym c.is_some-up.ensures) (kubelet-crashed doc k id h self s)
