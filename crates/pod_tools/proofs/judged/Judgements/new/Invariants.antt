use Rattle.std.specs.List.{All}
use Rattle.std.proofs.Common.{◌≡◌, Option, None}
use Rattle.pod_tools.specs.declared.judged.Judged.{Judged}
use Rattle.pod_tools.proofs.judged.Judgements.new.Given as goal

-- all slots are empty
abbrev pub invariant-loop : goal.invariant-loop
invariant-loop l = All (λ (slot : Option Judged). slot ≡ None) l.slots.items
