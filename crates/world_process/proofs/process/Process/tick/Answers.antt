use Rattle.std.proofs.Common.{sym, subst}
use Rattle.std.proofs.lemmas.Result.{on_ok_weaker}
use Rattle.world_process.specs.Controllers.{ControllerStands}
use Rattle.world_process.specs.Kubelets.{KubeletStands}
use Rattle.world_process.specs.Moves.{TickedAs}
use Rattle.world_process.specs.Processes.{ProcessStands}
use Rattle.world_process.proofs.process.Process.tick.Goals as goal

pub returns-in-Controller-clause-stands : goal.returns-in-Controller-clause-stands
returns-in-Controller-clause-stands g c doc k p h s store at watch passes can =
    let own : ControllerStands doc p h c.in-Controller.controller = subst (ProcessStands doc p h) c.in-Controller.is s in
    on_ok_weaker c.tick.result
    (λ ticked. subst (λ b. TickedAs doc k p b h (λ g. ControllerStands doc p g c.tick.new.self) c.tick.new.store c.args.deeds.now c.tick.new.deeds) (sym own.sort) ticked)
    (c.tick.ensures.stands doc k p h own store at watch passes (can own.sort))

pub returns-in-Kubelet-clause-stands : goal.returns-in-Kubelet-clause-stands
returns-in-Kubelet-clause-stands g c doc k p h s store at watch passes can =
    let own : KubeletStands doc p h c.in-Kubelet.field-0 = subst (ProcessStands doc p h) c.in-Kubelet.is s in
    subst (λ b. TickedAs doc k p b h (λ g. ProcessStands doc p g c.args.self.now) c.args.store.now c.args.deeds.now c.args.deeds.now) (sym own.sort)
    (record { stands = s; store = store; told = λ before told. told })
