use Rattle.std.proofs.Common.{◌≡◌, ◌≤◌, [], length, drop}
use Rattle.serde_json.specs.View.{items_view}
use Rattle.script_reader.specs.Cast.{Stands}
use Rattle.script_reader.specs.Walk.{kubelets_from}
use Rattle.script_reader.proofs.process.kubelets_of.Given as goal

-- what is left decides
abbrev pub invariant-loop-place : goal.invariant-loop-place
invariant-loop-place l = record {
  rest : kubelets_from l.settings l.initial.names 0 [] (items_view l.list) ≡ kubelets_from l.settings l.names l.place l.named.procs (items_view (drop l.place l.list));
  stands : Stands l.named;
  few : length l.named.procs ≤ l.place;
}
