use Rattle.silence_laws.proofs.Lasting as lasting
use Rattle.silence_laws.proofs.silences_last.Goals as goal

pub returns-clause-last : goal.returns-clause-last
returns-clause-last c = lasting.silences_last

pub returns-clause-told : goal.returns-clause-told
returns-clause-told c = lasting.silences_are_told
