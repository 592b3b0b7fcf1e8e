use Rattle.std.proofs.Common.{◌≡◌, sym, ◌∙◌, subst}
use Rattle.kube_objects.specs.Clocks.{wall}
use Rattle.kube_objects.specs.Identities.{identity}
use Rattle.leader_elector.specs.Stands.{AreWaitsOf}
use Rattle.world_process.specs.declared.controller.Role.TheVariants as role
use Rattle.world_process.specs.Controllers.{Timed}
use Rattle.world_process.proofs.Readings.{wall-when}
use Rattle.world_process.proofs.Standing.{role-at}
use Rattle.world_process.proofs.Timers.{candidate-turned}
use Rattle.world_process.proofs.controller.Controller.on_timer.Goals as goal

pub returns-in-Candidate-clause-stands : goal.returns-in-Candidate-clause-stands
returns-in-Candidate-clause-stands c doc k p h s now delay few =
    let self = c.args.self.now in
    let q = identity p self.incarnation in
    let wall_is : c.wall_at-wall.result.0 ≡ wall doc p k = c.wall_at-wall.ensures.value ∙ wall-when doc p k c.args.now.0 self.clock s.clock now in
    let was = role-at doc p h self (role.Candidate c.in-Candidate.candidate) s c.in-Candidate.is in
    let t = c.turn.ensures.turns doc q h k was.1 (subst (AreWaitsOf doc p) (sym c.as_slice.ensures.each) s.waits) now wall_is (few.calls q) in
    subst (λ r. Timed doc k p h (record self { role = role.Candidate c.turn.new.self }) r.ended r.ask) (sym c.turn_with-in-Candidate.ensures) (candidate-turned doc k p h self s was.0 was.1.elector.slot.ordinary c.turn.new.self c.turn.result t)

pub returns-in-Leading-clause-stands : goal.returns-in-Leading-clause-stands
returns-in-Leading-clause-stands c doc k p h s now delay few =
    let wall_is : c.wall_at-wall.result.0 ≡ wall doc p k = c.wall_at-wall.ensures.value ∙ wall-when doc p k c.args.now.0 c.args.self.now.clock s.clock now in
    c.lead_on.ensures.stands doc k p h c.in-Leading.field-0 s c.in-Leading.is now wall_is delay few

pub returns-in-Releasing-clause-stands : goal.returns-in-Releasing-clause-stands
returns-in-Releasing-clause-stands c doc k p h s now delay few = c.release_on.ensures.stands doc k p h c.in-Releasing.field-0 s c.in-Releasing.is now delay few
