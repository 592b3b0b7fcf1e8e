use Rattle.history_laws.proofs.Numbers.{numbers_count, numbers_differ}
use Rattle.history_laws.proofs.Once.{two_calls_a_beat, calls_are_few, one_call_a_beat, stops_make_fewer}
use Rattle.history_laws.proofs.Releasing.{releases_wait, others_are_ordinary}
use Rattle.history_laws.proofs.calls_are_numbered.Goals as goal

pub returns-clause-count : goal.returns-clause-count
returns-clause-count c = numbers_count

pub returns-clause-differ : goal.returns-clause-differ
returns-clause-differ c = numbers_differ

pub returns-clause-two : goal.returns-clause-two
returns-clause-two c = two_calls_a_beat

pub returns-clause-few : goal.returns-clause-few
returns-clause-few c = calls_are_few

pub returns-clause-one : goal.returns-clause-one
returns-clause-one c = one_call_a_beat

pub returns-clause-fewer : goal.returns-clause-fewer
returns-clause-fewer c = stops_make_fewer

pub returns-clause-waits : goal.returns-clause-waits
returns-clause-waits c = releases_wait

pub returns-clause-ordinary : goal.returns-clause-ordinary
returns-clause-ordinary c = others_are_ordinary
