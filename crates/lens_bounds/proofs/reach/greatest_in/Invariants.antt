use Rattle.std.proofs.Common.{◌≡◌, drop}
use Rattle.lens_bounds.specs.Documents.{greatest_in}
use Rattle.lens_bounds.proofs.reach.greatest_in.Given as goal

-- what is left decides
abbrev pub invariant-loop-list : goal.invariant-loop-list
invariant-loop-list l = greatest_in 1000 l.lists ≡ greatest_in l.most (drop l.list-index l.lists)
