use Rattle.succession_laws.proofs.Lingering as lingering
use Rattle.succession_laws.proofs.leaders_act_on.Goals as goal

pub returns : goal.returns
returns c = lingering.leaders_act_on
