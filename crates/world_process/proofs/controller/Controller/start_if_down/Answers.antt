use Rattle.std.proofs.Common.{◌≡◌, ◌∷◌, None, false, sym, ◌∙◌}
use Rattle.kube_objects.specs.declared.script.What.TheVariants as what
use Rattle.kube_objects.specs.Entry.{Event, script_entry}
use Rattle.world_process.specs.Controllers.{is_up_as}
use Rattle.world_process.proofs.Names.{eq-self}
use Rattle.world_process.proofs.Scripted.{begun-few, begun-starts, begun-up, down-event, down-is, plain-script}
use Rattle.world_process.proofs.controller.Controller.start_if_down.Goals as goal

pub returns-clause-stands : goal.returns-clause-stands
returns-clause-stands c doc n k id h s at plain few =
    let self = c.args.self.now in
    let rests : is_up_as self.role ≡ false = sym c.is_up.ensures ∙ c.if-is_up.false in
    let down = down-is doc id.0 self.incarnation h self.role rests s.role in
    let e = script_entry k 1 (Event (what.Start id) None) in
    begun-starts doc k id h c.start.new.self down
    (c.start.ensures.stands doc n k 1 id.0 (e ∷ h) (down-event doc id.0 k 1 (what.Start id) None h self (eq-self id.0) rests s) at (plain-script n k 1 (Event (what.Start id) None) h plain) (begun-few doc k id h down few))

pub returns-then-is_up-clause-stands : goal.returns-then-is_up-clause-stands
returns-then-is_up-clause-stands c doc n k id h s at plain few = begun-up doc k id h c.args.self.now (sym c.is_up.ensures ∙ c.if-is_up.true) s
