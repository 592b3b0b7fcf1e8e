use Rattle.std.proofs.Common.{◌≡◌, None, drop}
use Rattle.serde_json.specs.View.{items_view}
use Rattle.manifest_json.specs.Fields.{AreKept}
use Rattle.manifest_json.specs.Walk.{conditions_from}
use Rattle.manifest_json.proofs.node.conditions_of.Given as goal

-- what is left decides, and the names before are kept
abbrev pub invariant-loop-place : goal.invariant-loop-place
invariant-loop-place l = record {
  rest : conditions_from l.initial.names l.path 0 None (items_view l.list) ≡ conditions_from l.names l.path l.place l.ready (items_view (drop l.place l.list));
  kept : AreKept l.initial.names l.names;
}
