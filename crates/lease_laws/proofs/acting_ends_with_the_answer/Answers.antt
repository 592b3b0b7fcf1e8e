use Rattle.lease_laws.proofs.Emptied.{until_heard}
use Rattle.lease_laws.proofs.acting_ends_with_the_answer.Goals as goal

pub returns : goal.returns
returns c = until_heard
