use Rattle.wave_laws.proofs.Least as least
use Rattle.wave_laws.proofs.taints_take_time.Goals as goal

pub returns : goal.returns
returns c = least.taints_take_time
