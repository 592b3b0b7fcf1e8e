use Rattle.std.proofs.Common.{◌≡◌, drop}
use Rattle.trace_terms.specs.Findings.{earlier}
use Rattle.trace_terms.specs.Seats.{first_acting}
use Rattle.trace_terms.proofs.review.first_of.Given as goal

-- what was found and what is left make it
abbrev pub invariant-loop-seat : goal.invariant-loop-seat
invariant-loop-seat l = earlier l.found (first_acting (drop l.seat-index l.seats)) ≡ first_acting l.seats
