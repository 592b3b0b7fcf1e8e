use Rattle.std.proofs.Common.{◌≡◌, ◌++◌}
use Rattle.lens_calm.specs.Documents.{leaders_below}
use Rattle.lens_calm.proofs.document.add_leaders.Given as goal

-- the lines of the controllers so far
abbrev pub invariant-loop-place : goal.invariant-loop-place
invariant-loop-place l = l.text.items ≡ l.fn.text.items ++ leaders_below l.document l.safe l.place
