use Rattle.std.proofs.Common.{◌≡◌, ◌≤◌, [], length, drop}
use Rattle.serde_json.specs.View.{items_view}
use Rattle.script_reader.specs.Cast.{Stands}
use Rattle.script_reader.specs.Walk.{controllers_from}
use Rattle.script_reader.proofs.process.controllers_of.Given as goal

-- what is left decides
abbrev pub invariant-loop-place : goal.invariant-loop-place
invariant-loop-place l = record {
  rest : controllers_from l.version l.settings l.preset l.initial.names 0 [] [] (items_view l.list) ≡ controllers_from l.version l.settings l.preset l.names l.place l.named.procs l.waits (items_view (drop l.place l.list));
  stands : Stands l.named;
  few : length l.named.procs ≤ l.place;
}
