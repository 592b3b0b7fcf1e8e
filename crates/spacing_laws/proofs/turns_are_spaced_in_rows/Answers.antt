use Rattle.spacing_laws.proofs.Spacings.{spacing_in_rows}
use Rattle.spacing_laws.proofs.turns_are_spaced_in_rows.Goals as goal

pub returns : goal.returns
returns c doc sound cheap = spacing_in_rows doc sound cheap
