use Rattle.std.proofs.Common.{◌≡◌, arith}
use Rattle.kube_objects.specs.Pauses.{resume}
use Rattle.world_core.proofs.Moving.{read-at}
use Rattle.world_core.proofs.world.World.resume.Goals as goal

pub returns : goal.returns
returns c doc k h s end =
    let w = c.args.self.now in
    let i = c.args.who.0 in
    let x = c.index.result.now in
    let is : c.resume-resumes.result.0 ≡ resume doc i c.args.beat.0 = c.resume-resumes.ensures doc i h (s.within.processes i x (read-at w i x c.requires.process c.index.ensures)) in
    omega (arith, c.min.ensures, is, end)
