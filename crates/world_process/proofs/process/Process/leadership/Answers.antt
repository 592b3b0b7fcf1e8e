use Rattle.std.proofs.Common.{◌≡◌, Some, IfSome, sym, ap, ◌∙◌, subst}
use Rattle.kube_objects.specs.Identities.{identity}
use Rattle.kube_objects.specs.Process.{alive}
use Rattle.leader_elector.specs.Stands.{acting_identity}
use Rattle.world_process.specs.Controllers.{ControllerStands}
use Rattle.world_process.specs.Kubelets.{KubeletStands}
use Rattle.world_process.specs.Processes.{ProcessStands, leads_as, incarnation_of}
use Rattle.world_process.proofs.process.Process.leadership.Goals as goal

pub returns-in-Controller-clause-leads : goal.returns-in-Controller-clause-leads
returns-in-Controller-clause-leads c doc k p h s at =
    let own : ControllerStands doc p h c.in-Controller.controller = subst (ProcessStands doc p h) c.in-Controller.is s in
    c.leadership.ensures.leads doc k p h own at ∙ sym (ap (λ b. leads_as doc k p b h) own.sort)

pub returns-in-Kubelet-clause-leads : goal.returns-in-Kubelet-clause-leads
returns-in-Kubelet-clause-leads c doc k p h s at =
    let own : KubeletStands doc p h c.in-Kubelet.field-0 = subst (ProcessStands doc p h) c.in-Kubelet.is s in
    sym (ap (λ b. leads_as doc k p b h) own.sort)

pub returns-in-Controller-clause-identity : goal.returns-in-Controller-clause-identity
returns-in-Controller-clause-identity c doc p h s =
    let own : ControllerStands doc p h c.in-Controller.controller = subst (ProcessStands doc p h) c.in-Controller.is s in
    subst (λ x. IfSome c.leadership.result (λ a. acting_identity a ≡ identity p (incarnation_of x))) (sym c.in-Controller.is) (c.leadership.ensures.identity doc p h own)

pub returns-in-Controller-clause-up : goal.returns-in-Controller-clause-up
returns-in-Controller-clause-up c doc p h s =
    let own : ControllerStands doc p h c.in-Controller.controller = subst (ProcessStands doc p h) c.in-Controller.is s in
    subst (λ x. IfSome c.leadership.result (λ a. alive p h ≡ Some (incarnation_of x))) (sym c.in-Controller.is) (c.leadership.ensures.up doc p h own)
