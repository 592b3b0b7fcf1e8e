use Rattle.std.proofs.Common.{subst}
use Rattle.world_process.specs.Controllers.{ControllerStands}
use Rattle.world_process.specs.Kubelets.{KubeletStands}
use Rattle.world_process.specs.Processes.{ProcessStands}
use Rattle.world_process.proofs.process.Process.pauses.Goals as goal

pub returns-in-Controller : goal.returns-in-Controller
returns-in-Controller c doc p h s =
    let own : ControllerStands doc p h c.in-Controller.controller = subst (ProcessStands doc p h) c.in-Controller.is s in
    own.pauses

pub returns-in-Kubelet : goal.returns-in-Kubelet
returns-in-Kubelet c doc p h s =
    let own : KubeletStands doc p h c.in-Kubelet.kubelet = subst (ProcessStands doc p h) c.in-Kubelet.is s in
    own.pauses
