use Rattle.std.proofs.Common.{◌≡◌, ◌++◌, map, drop}
use Rattle.lens_explain.specs.Slips.{slip_of, slips_from}
use Rattle.lens_explain.proofs.slips.add_controllers.Given as goal

-- those so far and those of the rest
abbrev pub invariant-loop-place : goal.invariant-loop-place
invariant-loop-place l =
    map slip_of l.found.items ++ slips_from l.settings l.place (drop l.place l.controllers) ≡ map slip_of l.fn.found.items ++ slips_from l.settings 0 l.controllers
