use Rattle.std.proofs.Common.{◌∷◌, None, refl, sym, subst}
use Rattle.kube_objects.specs.declared.script.What.TheVariants as what
use Rattle.kube_objects.specs.Entry.{Event, script_entry}
use Rattle.kube_objects.specs.Identities.{identity}
use Rattle.leader_elector.proofs.Frames.{leading-foreign}
use Rattle.world_process.specs.declared.controller.Role.TheVariants as role
use Rattle.world_process.specs.Controllers.{StoppedAs}
use Rattle.world_process.proofs.Forgetting.{stopped-forgets}
use Rattle.world_process.proofs.Readings.{readings-are}
use Rattle.world_process.proofs.Stopping.{leading-at-once, leading-begins}
use Rattle.world_process.proofs.controller.Controller.give_up.Goals as goal

pub returns-in-AtOnce-clause-stands : goal.returns-in-AtOnce-clause-stands
returns-in-AtOnce-clause-stands c doc k id h s at awake few =
    let self = record c.args.self.now { role = role.Leading c.args.leading } in
    let q = identity id.0 self.incarnation in
    let e = script_entry k 1 (Event (what.Stop id) None) in
    let reads = readings-are doc id.0 k c.args.beat.0 c.local-now.result.0 c.wall_at-wall.result.0 self.clock s.clock at c.local-now.ensures.value c.wall_at-wall.ensures.value in
    let was = s.role in
    let t = c.in-AtOnce.ensures.stops doc q (e ∷ h) k (leading-foreign doc q e h c.args.leading refl was.1) reads.now reads.wall (few.calls q) in
    let gone = subst (λ r. StoppedAs doc k id h (record self { role = role.Down None }) r) (sym c.stop_with.ensures)
    (leading-at-once doc k id h self awake s was.0 was.1.leads was.1.unreleased c.in-AtOnce.field-0 c.in-AtOnce.ask t) in
    stopped-forgets doc k id h _ c.forget_term.new.self c.stop_with.result c.forget_term.ensures.incarnation (λ g. c.forget_term.ensures.stands doc id.0 g) gone

pub returns-in-Begins-clause-stands : goal.returns-in-Begins-clause-stands
returns-in-Begins-clause-stands c doc k id h s at awake few =
    let self = record c.args.self.now { role = role.Leading c.args.leading } in
    let q = identity id.0 self.incarnation in
    let e = script_entry k 1 (Event (what.Stop id) None) in
    let reads = readings-are doc id.0 k c.args.beat.0 c.local-now.result.0 c.wall_at-wall.result.0 self.clock s.clock at c.local-now.ensures.value c.wall_at-wall.ensures.value in
    let was = s.role in
    let t = c.in-Begins.ensures.stops doc q (e ∷ h) k (leading-foreign doc q e h c.args.leading refl was.1) reads.now reads.wall (few.calls q) in
    subst (λ r. StoppedAs doc k id h (record self { role = role.Releasing c.in-Begins.releasing }) r) (sym c.stop_with-in-Begins.ensures)
    (leading-begins doc k id h self awake s was.0 was.1.leads was.1.unreleased c.in-Begins.releasing c.in-Begins.ask t)
