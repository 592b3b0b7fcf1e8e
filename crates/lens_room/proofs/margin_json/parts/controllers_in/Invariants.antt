use Rattle.std.proofs.Common.{◌≡◌, map}
use Rattle.lens_json.specs.Parts.{members_in}
use Rattle.lens_room.specs.MarginJson.{controllers_below}
use Rattle.lens_room.proofs.margin_json.parts.controllers_in.Given as goal

-- the objects of the controllers so far
abbrev pub invariant-loop-controller : goal.invariant-loop-controller
invariant-loop-controller l = map members_in l.objects.items ≡ controllers_below l.document l.controller
