use Rattle.std.proofs.Common.{◌≡◌, drop}
use Rattle.lens_bounds.specs.Documents.{least_in}
use Rattle.lens_bounds.proofs.reach.least_in.Given as goal

-- what is left decides
abbrev pub invariant-loop-list : goal.invariant-loop-list
invariant-loop-list l = least_in 2200 l.lists ≡ least_in l.least (drop l.list-index l.lists)
