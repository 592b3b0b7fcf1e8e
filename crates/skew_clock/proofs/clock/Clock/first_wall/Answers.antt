use Rattle.std.proofs.Common.{◌+◌, ◌/◌, arith}
use Rattle.std.proofs.lemmas.Int.{ints}
use Rattle.skew_clock.specs.Clocking.{reading}
use Rattle.skew_clock.specs.Segments.{clocking_of}
use Rattle.skew_clock.proofs.SegmentsLemmas.{reading-kept}
use Rattle.skew_clock.proofs.Walls.{moved-exact}
use Rattle.skew_clock.proofs.clock.Clock.first_wall.Goals as goal

pub returns-in_err-units-clause-none : goal.returns-in_err-units-clause-none
returns-in_err-units-clause-none c =
    let large = c.in_err-units.ensures {u = tt} in
    rw (c.from_residual.ensures, ← c.self.view_is) (λ k within.
    let reads = reading-kept c.self.inside c.self.invariant k within in
    let shows = moved-exact c.self.inside.offset_micros (c.self.inside.epoch.0 + reading (clocking_of c.self.inside) k / 1000000) (omega (arith, c.self.invariant.epoch)) c.self.invariant.offset in
    omega (arith, ints, shows, reads, large))
