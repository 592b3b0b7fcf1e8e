use Rattle.std.proofs.Common.{◌≡◌, [], drop}
use Rattle.serde_json.specs.View.{items_view}
use Rattle.script_reader.specs.Cast.{seen}
use Rattle.script_reader.specs.Scripts.{IsIndexed}
use Rattle.script_reader.specs.Walk.{events_from}
use Rattle.script_reader.proofs.Loops.{behind_these}
use Rattle.script_reader.proofs.event.events_of.Given as goal

-- what is left decides
abbrev pub invariant-loop-place : goal.invariant-loop-place
invariant-loop-place l =
    (events_from l.scope (seen l.players) l.initial.names 0 0 [] (items_view l.list)
    ≡ behind_these l.script.events (events_from l.scope (seen l.players) l.names l.place l.script.last.0 l.script.events (items_view (drop l.place l.list))))
    × IsIndexed l.script
