use Rattle.std.proofs.Common.{◌≡◌, [], drop}
use Rattle.serde_json.specs.View.{items_view}
use Rattle.pod_inputs.specs.Walk.{missing_from}
use Rattle.pod_inputs.proofs.missing.missing_of.Given as goal

-- what is left decides
abbrev pub invariant-loop-place : goal.invariant-loop-place
invariant-loop-place l =
    missing_from l.initial.names 0 [] (items_view l.list) ≡ missing_from l.names l.place l.missing (items_view (drop l.place l.list))
