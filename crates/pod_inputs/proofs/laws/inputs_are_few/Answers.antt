use Rattle.pod_inputs.proofs.Within.{collect-fits, place-fits}
use Rattle.pod_inputs.proofs.laws.inputs_are_few.Goals as goal

pub returns-clause-collect : goal.returns-clause-collect
returns-clause-collect c = λ bytes input is. (collect-fits bytes).at input is

pub returns-clause-place : goal.returns-clause-place
returns-clause-place c = λ bytes input is. (place-fits bytes).at input is
