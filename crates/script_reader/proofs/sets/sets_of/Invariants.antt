use Rattle.std.proofs.Common.{◌≡◌, drop}
use Rattle.serde_json.specs.View.{items_view}
use Rattle.manifest_json.specs.Kept.{Stands}
use Rattle.script_reader.specs.Sets.{sets_from}
use Rattle.script_reader.proofs.sets.sets_of.Given as goal

-- what is left decides
abbrev pub invariant-loop-place : goal.invariant-loop-place
invariant-loop-place l = record {
  rest : sets_from l.initial.kept.scale l.initial.names 0 l.initial.kept.items (items_view l.list) ≡ sets_from l.kept.scale l.names l.place l.kept.items (items_view (drop l.place l.list));
  stands : Stands l.kept;
}
