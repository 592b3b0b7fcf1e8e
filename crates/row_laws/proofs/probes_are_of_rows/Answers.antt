use Rattle.row_laws.proofs.Probes.{probes_are_of_rows}
use Rattle.row_laws.proofs.probes_are_of_rows.Goals as goal

pub returns : goal.returns
returns c = probes_are_of_rows
