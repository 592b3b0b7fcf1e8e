use Rattle.std.proofs.Common.{◌≡◌, ◌++◌}
use Rattle.lens_room.specs.Lines.{lines_below}
use Rattle.lens_room.proofs.lines.add_controllers.Given as goal

-- the lines of the controllers so far
abbrev pub invariant-loop-controller : goal.invariant-loop-controller
invariant-loop-controller l = l.text.items ≡ l.fn.text.items ++ lines_below l.document l.controller
