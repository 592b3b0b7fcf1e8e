use Rattle.spacing_laws.proofs.Spacings.{spacing}
use Rattle.spacing_laws.proofs.taints_are_spaced.Goals as goal

pub returns : goal.returns
returns c doc premise sound cheap = spacing doc sound cheap premise
