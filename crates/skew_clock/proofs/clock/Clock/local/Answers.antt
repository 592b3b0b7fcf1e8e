use Rattle.std.proofs.Common.{◌≡◌, ◌+◌, ◌*◌, ◌≤◌, ap, arith}
use Rattle.skew_clock.specs.Clocking.{Clocking, reading}
use Rattle.skew_clock.proofs.SegmentsLemmas.{reading-kept, reading-segment}
use Rattle.skew_clock.proofs.clock.Clock.local.Goals as goal

sum : (c : goal.After-step) → c.segment_at-segment.result.reading.0 + c.from-beats.result * c.step.result ≡ reading c.args.self.now c.args.beat.0
sum c =
    let segment = c.segment_at-segment.ensures in
    rw (c.from-beats.ensures, c.step.ensures, ap (λ (v : Clocking). v.beat_micros) c.self.view_is)
    (reading-segment c.args.self.now c.segment_at-segment.result c.args.beat.0 segment.begins segment.begun segment.rate)

bound : (c : goal.After-step) → reading c.args.self.now c.args.beat.0 ≤ 1209600000000000000
bound c =
    let within : c.args.beat.0 ≤ c.self.inside.end.0 = rw (ap (λ (v : Clocking). v.end) c.self.view_is) c.requires in
    rw c.self.view_is at (reading-kept c.self.inside c.self.invariant c.args.beat.0 within)

pub overflow_mul-result : goal.overflow_mul-result
overflow_mul-result c = omega (arith, sum c, bound c)

pub overflow_add-result : goal.overflow_add-result
overflow_add-result c = omega (arith, sum c, bound c)

pub returns-clause-value : goal.returns-clause-value
returns-clause-value c = sum c

pub returns-clause-range : goal.returns-clause-range
returns-clause-range c = omega (arith, sum c, bound c)
