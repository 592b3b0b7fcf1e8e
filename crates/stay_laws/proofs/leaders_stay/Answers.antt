use Rattle.stay_laws.proofs.Staying as staying
use Rattle.stay_laws.proofs.leaders_stay.Goals as goal

pub returns : goal.returns
returns c = staying.leaders_stay
