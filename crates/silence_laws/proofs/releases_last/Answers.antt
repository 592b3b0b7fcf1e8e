use Rattle.silence_laws.proofs.Released as released
use Rattle.silence_laws.proofs.releases_last.Goals as goal

pub returns : goal.returns
returns c = released.releases_last
