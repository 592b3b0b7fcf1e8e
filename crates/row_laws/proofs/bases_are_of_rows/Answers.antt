use Rattle.row_laws.proofs.Bases.{bases_are_of_rows}
use Rattle.row_laws.proofs.bases_are_of_rows.Goals as goal

pub returns : goal.returns
returns c = bases_are_of_rows
