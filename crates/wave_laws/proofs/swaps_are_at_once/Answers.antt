use Rattle.wave_laws.proofs.Swaps as swaps
use Rattle.wave_laws.proofs.swaps_are_at_once.Goals as goal

pub returns : goal.returns
returns c = swaps.swaps_are_at_once
