use Rattle.std.proofs.Common.{◌≡◌, [], drop}
use Rattle.serde_json.specs.View.{items_view}
use Rattle.script_reader.specs.Waits.{waits_from}
use Rattle.script_reader.proofs.waits.waits_of.Given as goal

-- what is left decides
abbrev pub invariant-loop-place : goal.invariant-loop-place
invariant-loop-place l = waits_from l.path 0 [] (items_view l.list) ≡ waits_from l.path l.place l.waits (items_view (drop l.place l.list))
