use Rattle.std.proofs.Common.{◌≡◌, drop}
use Rattle.serde_json.specs.View.{items_view}
use Rattle.pod_inputs.specs.Rows.{condition_holds}
use Rattle.pod_inputs.proofs.condition.condition_holds.Given as goal

-- what is left decides
abbrev pub invariant-loop-condition : goal.invariant-loop-condition
invariant-loop-condition l =
    condition_holds l.kind (items_view l.conditions) ≡ condition_holds l.kind (items_view (drop l.condition-index l.conditions))
