use Rattle.std.proofs.Common.{sym, subst, ◌∙◌}
use Rattle.history_laws.proofs.Plainly.{false_is}
use Rattle.world_process.specs.Kubelets.{KubeletStands}
use Rattle.world_process.specs.Processes.{ProcessStands}
use Rattle.world_process.proofs.process.Process.delete_wake.Goals as goal

pub returns-in-Controller : goal.returns-in-Controller
returns-in-Controller c doc k q h s is beats upto = c.delete_wake.ensures doc k q h (subst (ProcessStands doc q.process h) c.in-Controller.is s) is beats upto

-- no controller is a kubelet
pub returns-in-Kubelet : goal.returns-in-Kubelet
returns-in-Kubelet c doc k q h s is beats upto =
    let own : KubeletStands doc q.process h c.in-Kubelet.field-0 = subst (ProcessStands doc q.process h) c.in-Kubelet.is s in
    absurd (false_is (sym own.sort ∙ is.sort))
