use Rattle.std.proofs.Common.{take}
use Rattle.pod_tools.specs.ByKey.{IsRight}
use Rattle.pod_tools.proofs.by_key.in_slots.Given as goal

-- those so far are all that count
abbrev pub invariant-loop-toleration : goal.invariant-loop-toleration
invariant-loop-toleration l = IsRight (take l.toleration-index l.all) l.slots
