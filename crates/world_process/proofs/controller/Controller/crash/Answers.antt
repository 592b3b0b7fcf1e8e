use Rattle.std.proofs.Common.{None, sym, subst}
use Rattle.world_process.specs.declared.controller.Role.TheVariants as role
use Rattle.world_process.specs.Controllers.{Crashed}
use Rattle.world_process.proofs.Forgetting.{crashed-forgets}
use Rattle.world_process.proofs.Scripted.{controller-crashed}
use Rattle.world_process.proofs.controller.Controller.crash.Goals as goal

pub returns-clause-stands : goal.returns-clause-stands
returns-clause-stands c doc k id h s =
    let self = c.args.self.now in
    let gone = record self { role = role.Down None } in
    crashed-forgets doc k id h gone c.forget_term.new.self c.is_up-up.result c.forget_term.ensures.incarnation (λ g. c.forget_term.ensures.stands doc id.0 g)
    (subst (Crashed doc k id h gone) (sym c.is_up-up.ensures) (controller-crashed doc k id h self s))
