use Rattle.row_laws.proofs.Keys.{waits_stay, keys_are_of_rows}
use Rattle.row_laws.proofs.keys_are_of_rows.Goals as goal

pub returns-clause-stay : goal.returns-clause-stay
returns-clause-stay c = waits_stay

pub returns-clause-keys : goal.returns-clause-keys
returns-clause-keys c = keys_are_of_rows
