use Rattle.std.proofs.Common.{sym, subst}
use Rattle.kube_base.specs.declared.numbers.ProcId.{ProcId}
use Rattle.world_core.specs.Waits.{IsLeastTurn}
use Rattle.world_core.proofs.Leaves.{least-none, least-some}
use Rattle.world_core.proofs.world.World.least_turn.Goals as goal

pub returns-in_err-i-clause-least : goal.returns-in_err-i-clause-least
returns-in_err-i-clause-least c doc k h s ends =
    subst (IsLeastTurn doc h) (sym c.from_residual.ensures) (least-none doc k h c.args.self.now c.requires s ends c.in_err-i.ensures.none)

pub returns-clause-least : goal.returns-clause-least
returns-clause-least c doc k h s ends =
    let who : ProcId = record { 0 = c.in_ok-i.i } in
    least-some doc k h c.args.self.now c.requires s ends who c.in_ok-i.ensures.there c.in_ok-i.ensures.least
