use Rattle.std.proofs.Common.{◌≡◌, sym, ap, ◌∙◌, subst}
use Rattle.kube_objects.specs.Newest.{when}
use Rattle.kube_objects.specs.Process.{alive}
use Rattle.world_process.specs.Controllers.{ControllerStands}
use Rattle.world_process.specs.Kubelets.{KubeletStands}
use Rattle.world_process.specs.Processes.{ProcessStands, incarnation_of}
use Rattle.world_process.proofs.Processes.{role-up, rounds-up}
use Rattle.world_process.proofs.process.Process.is_up.Goals as goal

pub returns-in-Controller : goal.returns-in-Controller
returns-in-Controller c doc p h s =
    let own : ControllerStands doc p h c.in-Controller.controller = subst (ProcessStands doc p h) c.in-Controller.is s in
    subst (λ x. alive p h ≡ when c.is_up.result (incarnation_of x)) (sym c.in-Controller.is)
    (role-up doc p c.in-Controller.controller.incarnation h c.in-Controller.controller.role own.role
    ∙ ap (λ b. when b c.in-Controller.controller.incarnation) (sym c.is_up.ensures))

pub returns-in-Kubelet : goal.returns-in-Kubelet
returns-in-Kubelet c doc p h s =
    let own : KubeletStands doc p h c.in-Kubelet.kubelet = subst (ProcessStands doc p h) c.in-Kubelet.is s in
    subst (λ x. alive p h ≡ when c.is_some.result (incarnation_of x)) (sym c.in-Kubelet.is)
    (rounds-up doc p c.in-Kubelet.kubelet.incarnation h c.in-Kubelet.kubelet.rounds own.rounds
    ∙ ap (λ b. when b c.in-Kubelet.kubelet.incarnation) (sym c.is_some.ensures))
