use Rattle.kube_objects.specs.Identities.{identity}
use Rattle.world_process.specs.declared.controller.Role.TheVariants as role
use Rattle.world_process.proofs.Standing.{role-at}
use Rattle.world_process.proofs.Wakes.{candidate-reading, down-reading, leading-reading, releasing-reading}
use Rattle.world_process.proofs.controller.Controller.wake.Goals as goal

pub returns-in-Down : goal.returns-in-Down
returns-in-Down c doc p h s =
    let self = c.args.self.now in
    down-reading doc p self.incarnation h c.in-Down.at (role-at doc p h self (role.Down c.in-Down.at) s c.in-Down.is)

pub returns-in-Candidate : goal.returns-in-Candidate
returns-in-Candidate c doc p h s =
    let self = c.args.self.now in
    let was = role-at doc p h self (role.Candidate c.in-Candidate.candidate) s c.in-Candidate.is in
    candidate-reading doc p self.incarnation c.wake.result.0 h c.in-Candidate.candidate was
    (c.wake.ensures.reading doc (identity p self.incarnation) h was.1)

pub returns-in-Leading : goal.returns-in-Leading
returns-in-Leading c doc p h s =
    let self = c.args.self.now in
    let was = role-at doc p h self (role.Leading c.in-Leading.leading) s c.in-Leading.is in
    leading-reading doc p self.incarnation c.wake-in-Leading.result.0 h c.in-Leading.leading was
    (c.wake-in-Leading.ensures.reading doc (identity p self.incarnation) h was.1)

pub returns-in-Releasing : goal.returns-in-Releasing
returns-in-Releasing c doc p h s =
    let self = c.args.self.now in
    let was = role-at doc p h self (role.Releasing c.in-Releasing.releasing) s c.in-Releasing.is in
    releasing-reading doc p self.incarnation c.wake-in-Releasing.result.0 h c.in-Releasing.releasing was c.wake-in-Releasing.ensures.kept
