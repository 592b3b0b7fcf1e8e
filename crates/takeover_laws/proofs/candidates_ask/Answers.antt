use Rattle.takeover_laws.proofs.Asking as asking
use Rattle.takeover_laws.proofs.candidates_ask.Goals as goal

pub returns : goal.returns
returns c = asking.candidates_ask
