use Rattle.std.proofs.Common.{◌≡◌, ℕ, []}
use Rattle.pod_tools.specs.ByKey.{in_slot}
use Rattle.pod_tools.proofs.by_key.Slots.new.Given as goal

-- all slots are empty
abbrev pub invariant-loop : goal.invariant-loop
invariant-loop l = (place : ℕ) → in_slot l.slots.items place ≡ []
