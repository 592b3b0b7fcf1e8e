-- How a tick's write is answered.
use Rattle.std.specs.Prelude.{Result, Ok, Err}
use Rattle.kube_base.specs.declared.memory.NoMemory.{NoMemory}
use Rattle.kube_base.specs.declared.numbers.Version.{Version}
use Rattle.kube_objects.specs.declared.call.Answer.{Answer}
use Rattle.kube_objects.specs.declared.call.Answer.TheVariants as answer
use Rattle.object_store.specs.declared.faults.StoreFault.{StoreFault}
use Rattle.object_store.specs.declared.faults.StoreFault.TheVariants as fault

-- what the store did as an answer, unless memory ran out
abbrev pub answer_of : Result Version StoreFault → Result Answer NoMemory
answer_of (Ok version) = Ok (answer.Done version)
answer_of (Err fault.Absent) = Ok answer.Absent
answer_of (Err fault.Exists) = Ok answer.Exists
answer_of (Err (fault.Conflict version)) = Ok (answer.Conflict version)
answer_of (Err fault.NoMemory) = Err (record {})
