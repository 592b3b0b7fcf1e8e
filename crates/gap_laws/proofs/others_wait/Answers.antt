use Rattle.gap_laws.proofs.Others as others
use Rattle.gap_laws.proofs.others_wait.Goals as goal

pub returns : goal.returns
returns c = others.others_wait
