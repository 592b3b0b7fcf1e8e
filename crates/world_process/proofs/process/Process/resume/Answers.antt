use Rattle.world_process.proofs.process.Process.resume.Goals as goal

pub returns : goal.returns
returns c doc p h s = c.resume.ensures doc p (c.pauses.ensures doc p h s)
