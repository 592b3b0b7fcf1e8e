use Rattle.std.proofs.Common.{◌≡◌, drop}
use Rattle.manifest_json.specs.Kept.{Stands}
use Rattle.script_reader.specs.SetParts.{alike}
use Rattle.script_reader.specs.Sets.{pods_onto}
use Rattle.script_reader.proofs.sets.pods_onto.Given as goal

-- what is left decides
abbrev pub invariant-loop-j : goal.invariant-loop-j
invariant-loop-j l = record {
  rest : pods_onto l.initial.kept.scale l.initial.names l.path (alike l.pattern) 0 l.initial.kept.items l.nodes ≡ pods_onto l.kept.scale l.names l.path (alike l.pattern) l.j l.kept.items (drop l.j l.nodes);
  stands : Stands l.kept;
  scale : l.kept.scale ≡ l.initial.kept.scale;
}
