use Rattle.bounds_laws.proofs.Alike as alike
use Rattle.bounds_laws.proofs.waits_are_told_alike.Goals as goal

pub returns-clause-alike : goal.returns-clause-alike
returns-clause-alike c = alike.alike_tell_the_same

pub returns-clause-up_to : goal.returns-clause-up_to
returns-clause-up_to c = alike.up_to_is_between
