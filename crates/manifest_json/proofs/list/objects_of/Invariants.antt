use Rattle.std.proofs.Common.{◌≡◌, ◌≤◌, [], drop}
use Rattle.serde_json.specs.View.{items_view}
use Rattle.manifest_json.specs.Fields.{AreKept}
use Rattle.manifest_json.specs.Kept.{Stands}
use Rattle.manifest_json.specs.Walk.{list_from}
use Rattle.manifest_json.proofs.list.objects_of.Given as goal

-- what is left decides
abbrev pub invariant-loop-place : goal.invariant-loop-place
invariant-loop-place l = record {
  rest : list_from l.fn.scale l.initial.names l.known l.path 0 [] 0 (items_view l.list) ≡ list_from l.kept.scale l.names l.known l.path l.place l.kept.items l.skipped (items_view (drop l.place l.list));
  stands : Stands l.kept;
  scale : l.kept.scale ≡ l.fn.scale;
  few : l.skipped ≤ l.place;
  kept : AreKept l.initial.names l.names;
}
