use Rattle.history_examples.proofs.Entries as worked
use Rattle.history_examples.proofs.worked_entries.Goals as goal

pub returns : goal.returns
returns c = worked.twelve_entries
