use Rattle.world_process.proofs.process.Process.is_paused.Goals as goal

pub returns : goal.returns
returns c doc p h s = c.is_paused.ensures doc p (c.pauses.ensures doc p h s)
