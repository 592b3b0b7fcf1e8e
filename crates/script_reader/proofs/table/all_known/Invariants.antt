use Rattle.std.proofs.Common.{◌≡◌}
use Rattle.serde_json.specs.View.{members_view}
use Rattle.script_reader.specs.Tables.{all_known}
use Rattle.script_reader.proofs.table.all_known.Given as goal

-- what is left decides
abbrev pub invariant-loop-key : goal.invariant-loop-key
invariant-loop-key g l = let is_key = g.K.Keys.is_key l.table in all_known is_key (members_view l.members.entries) ≡ all_known is_key (members_view l.key-iterator)
