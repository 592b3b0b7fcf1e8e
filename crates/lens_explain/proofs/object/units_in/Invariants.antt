use Rattle.std.proofs.Common.{◌≡◌, ◌++◌, map, drop}
use Rattle.lens_json.specs.Parts.{members_in}
use Rattle.lens_explain.specs.Json.{slip_members}
use Rattle.lens_explain.specs.Slips.{slip_of}
use Rattle.lens_explain.proofs.object.units_in.Given as goal

-- the objects so far and those of the rest
abbrev pub invariant-loop-slip : goal.invariant-loop-slip
invariant-loop-slip l =
    map members_in l.objects.items ++ map slip_members (map slip_of (drop l.slip-index l.slips)) ≡ map slip_members (map slip_of l.slips)
