use Rattle.std.proofs.Common.{◌≡◌, ◌*◌, ◌≤◌, [], length, drop}
use Rattle.serde_json.specs.View.{items_view}
use Rattle.script_reader.specs.Sets.{shares_from, pods_of}
use Rattle.script_reader.proofs.sets.shares_of.Given as goal

-- what is left decides, and the pods so far are counted
abbrev pub invariant-loop-place : goal.invariant-loop-place
invariant-loop-place l = record {
  rest : shares_from l.initial.names l.path 0 [] (items_view l.list) ≡ shares_from l.names l.path l.place l.shares (items_view (drop l.place l.list));
  counted : l.pods ≡ pods_of l.shares;
  few : l.pods ≤ l.place * 4294967295;
  within : l.place ≤ length l.list;
}
