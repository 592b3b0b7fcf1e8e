use Rattle.takeover_laws.proofs.Taking as taking
use Rattle.takeover_laws.proofs.takeovers_end_in_acting.Goals as goal

pub returns : goal.returns
returns c = taking.takeovers_end_in_acting
