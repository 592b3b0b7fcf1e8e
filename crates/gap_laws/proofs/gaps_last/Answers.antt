use Rattle.gap_laws.proofs.Gaps as gaps
use Rattle.gap_laws.proofs.gaps_last.Goals as goal

pub returns : goal.returns
returns c = gaps.gaps_last
