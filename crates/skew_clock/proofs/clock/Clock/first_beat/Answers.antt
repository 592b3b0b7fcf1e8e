use Rattle.std.proofs.Common.{arith}
use Rattle.skew_clock.proofs.FirstBeat.{first-reached}
use Rattle.skew_clock.proofs.clock.Clock.first_beat.Goals as goal

pub returns-then-beats-from-clause-first : goal.returns-then-beats-from-clause-first
returns-then-beats-from-clause-first c =
    let segment = c.segment_before-segment.ensures in
    let first = first-reached c.args.self.now c.segment_before-segment.result.beat.0 _ c.args.at.0 c.segment_before-segment.result.ppm _ c.step.result
    segment.begins segment.before segment.rate (rw (← c.self.view_is) c.step.ensures) (rw (← c.self.view_is) c.self.invariant.span.0) segment.runs c.div_ceil-beats.ensures in
    record { within = rw (← c.self.view_is) (omega (arith, rw (← c.self.view_is) at segment.within)); reached = first.reached; before = first.before }

pub returns-else-beats-from-clause-none : goal.returns-else-beats-from-clause-none
returns-else-beats-from-clause-none c =
    let segment = c.segment_before-segment.ensures in
    let first = first-reached c.args.self.now c.segment_before-segment.result.beat.0 _ c.args.at.0 c.segment_before-segment.result.ppm _ c.step.result
    segment.begins segment.before segment.rate (rw (← c.self.view_is) c.step.ensures) (rw (← c.self.view_is) c.self.invariant.span.0) segment.runs c.div_ceil-beats.ensures in
    λ k within. first.before k (omega (arith, rw (← c.self.view_is) at within))
