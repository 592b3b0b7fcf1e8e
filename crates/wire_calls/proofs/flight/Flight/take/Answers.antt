use Rattle.std.proofs.Common.{◌≡◌, ◌==◌, true, rules}
use Rattle.std.specs.VecDeque.{deque_items}
use Rattle.wire_calls.specs.InFlight.{queued}
use Rattle.wire_calls.proofs.Passing.{first-passes}
use Rattle.wire_calls.proofs.flight.Flight.take.Goals as goal

pub returns-then-self-beat-clause-each : goal.returns-then-self-beat-clause-each
returns-then-self-beat-clause-each g c test all =
    let here : (c.args.self.now.beat.0 == c.args.beat.0) ≡ true = search rules in
    first-passes test _ (deque_items c.args.self.now.front) (queued c.args.self.now.others c.args.beat.0) c.take_first.result here c.take_first.ensures.first (all c.args.beat.0)
