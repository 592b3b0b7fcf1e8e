use Rattle.std.proofs.Common.{◌≡◌, [], drop}
use Rattle.serde_json.specs.View.{items_view}
use Rattle.manifest_json.specs.Fields.{AreKept}
use Rattle.manifest_json.specs.Walk.{tolerations_from}
use Rattle.manifest_json.proofs.pod.tolerations_of.Given as goal

-- what is left decides, and the names before are kept
abbrev pub invariant-loop-place : goal.invariant-loop-place
invariant-loop-place l = record {
  rest : tolerations_from l.initial.names l.path l.key 0 [] (items_view l.list) ≡ tolerations_from l.names l.path l.key l.place l.tolerations (items_view (drop l.place l.list));
  kept : AreKept l.initial.names l.names;
}
