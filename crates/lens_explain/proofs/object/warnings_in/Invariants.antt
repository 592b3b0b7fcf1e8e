use Rattle.std.proofs.Common.{◌≡◌, ◌++◌, map, drop}
use Rattle.lens_json.specs.Parts.{members_in}
use Rattle.lens_explain.specs.Json.{warning_members}
use Rattle.lens_explain.proofs.object.warnings_in.Given as goal

-- the objects so far and those of the rest
abbrev pub invariant-loop-warning : goal.invariant-loop-warning
invariant-loop-warning l = map members_in l.objects.items ++ map warning_members (drop l.warning-index l.found) ≡ map warning_members l.found
