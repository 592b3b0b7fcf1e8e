use Rattle.silence_laws.proofs.Quiet as quiet
use Rattle.silence_laws.proofs.silents_are_quiet.Goals as goal

pub returns : goal.returns
returns c = quiet.silents_are_quiet
