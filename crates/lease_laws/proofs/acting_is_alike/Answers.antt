use Rattle.lease_laws.proofs.Alike.{alike}
use Rattle.lease_laws.proofs.acting_is_alike.Goals as goal

pub returns : goal.returns
returns c = alike
