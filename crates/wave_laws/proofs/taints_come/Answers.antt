use Rattle.wave_laws.proofs.Waves as waves
use Rattle.wave_laws.proofs.taints_come.Goals as goal

pub returns-clause-known : goal.returns-clause-known
returns-clause-known c = waves.taints_come

pub returns-clause-anyway : goal.returns-clause-anyway
returns-clause-anyway c = waves.taints_come_anyway
