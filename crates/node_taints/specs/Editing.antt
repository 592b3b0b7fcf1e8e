-- Taints that a controller adds.
use Rattle.std.specs.Prelude.{ℕ, Some}
use Rattle.kube_objects.specs.declared.node.Effect.TheVariants.{NoExecute}
use Rattle.kube_objects.specs.declared.node.Taint.{Taint}

-- without a value, with the time at which it is added
abbrev pub taint_at : ℕ → ℕ → Taint
taint_at key second = record { key = key; value = 0; effect = NoExecute; added = Some (record { 0 = second }) }
