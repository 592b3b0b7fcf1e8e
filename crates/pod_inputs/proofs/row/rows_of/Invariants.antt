use Rattle.std.proofs.Common.{◌≡◌, drop}
use Rattle.serde_json.specs.View.{items_view}
use Rattle.pod_inputs.specs.Rows.{rows_from, no_rows}
use Rattle.pod_inputs.proofs.row.rows_of.Given as goal

-- what is left decides
abbrev pub invariant-loop-place : goal.invariant-loop-place
invariant-loop-place l =
    rows_from l.initial.names 0 no_rows l.found (items_view l.list) ≡ rows_from l.names l.place l.rows l.later (items_view (drop l.place l.list))
