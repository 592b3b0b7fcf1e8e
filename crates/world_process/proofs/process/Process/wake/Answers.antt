use Rattle.std.proofs.Common.{sym, ap, ◌∙◌, subst}
use Rattle.world_process.specs.Beats.{own_reading_as}
use Rattle.world_process.specs.Controllers.{ControllerStands}
use Rattle.world_process.specs.Kubelets.{KubeletStands}
use Rattle.world_process.specs.Processes.{ProcessStands}
use Rattle.world_process.proofs.process.Process.wake.Goals as goal

pub returns-in-Controller : goal.returns-in-Controller
returns-in-Controller c doc p h s =
    let own : ControllerStands doc p h c.in-Controller.controller = subst (ProcessStands doc p h) c.in-Controller.is s in
    c.wake.ensures doc p h own ∙ sym (ap (λ b. own_reading_as doc p b h) own.sort)

pub returns-in-Kubelet : goal.returns-in-Kubelet
returns-in-Kubelet c doc p h s =
    let own : KubeletStands doc p h c.in-Kubelet.kubelet = subst (ProcessStands doc p h) c.in-Kubelet.is s in
    c.wake-in-Kubelet.ensures doc p h own ∙ sym (ap (λ b. own_reading_as doc p b h) own.sort)
