use Rattle.std.proofs.Common.{◌≡◌, ◌++◌, length, reverse}
use Rattle.lens_terms.proofs.gathering.reversed.Given as goal

-- those turned, and the rest to turn
abbrev pub invariant-terms : goal.invariant-terms
invariant-terms l = l.turned.items ++ reverse l.rest.items ≡ reverse l.fn.terms.items

abbrev pub decreases-terms : goal.decreases-terms
decreases-terms l = length l.rest.items
