use Rattle.std.proofs.Common.{sym, subst}
use Rattle.history.specs.Steps.{restart, elector_turn}
use Rattle.world_process.specs.Controllers.{ControllerStands}
use Rattle.world_process.specs.Kubelets.{KubeletStands}
use Rattle.world_process.specs.Moves.{TurnedAs, own_turn_as}
use Rattle.world_process.specs.Plain.{IsFew}
use Rattle.world_process.specs.Processes.{ProcessStands}
use Rattle.world_process.proofs.Grows.{few-before, grows-after_restart}
use Rattle.world_process.proofs.process.Process.turn.Goals as goal

pub returns-in-Controller-clause-stands : goal.returns-in-Controller-clause-stands
returns-in-Controller-clause-stands c doc n k p h s at delay status plain few =
    let own : ControllerStands doc p h c.in-Controller.controller = subst (ProcessStands doc p h) c.in-Controller.is s in
    let new = c.turn.new.self in
    let less = few-before (restart doc k p h) (elector_turn doc k p h) (grows-after_restart doc k p h) (subst (λ b. IsFew (own_turn_as doc k p b h)) own.sort few) in
    subst (λ b. TurnedAs doc k p b h new.incarnation (λ g. ControllerStands doc p g new) c.turn.result) (sym own.sort) (c.turn.ensures.stands doc n k p h own at delay plain less)

pub returns-in-Kubelet-clause-stands : goal.returns-in-Kubelet-clause-stands
returns-in-Kubelet-clause-stands c doc n k p h s at delay status plain few =
    let own : KubeletStands doc p h c.in-Kubelet.kubelet = subst (ProcessStands doc p h) c.in-Kubelet.is s in
    let new = c.turn-in-Kubelet.new.self in
    let less = subst (λ b. IsFew (own_turn_as doc k p b h)) own.sort few in
    subst (λ b. TurnedAs doc k p b h new.incarnation (λ g. KubeletStands doc p g new) c.turn-in-Kubelet.result) (sym own.sort) (c.turn-in-Kubelet.ensures.stands doc k p h own at status less)
