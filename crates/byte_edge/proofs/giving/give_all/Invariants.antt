use Rattle.std.proofs.Common.{◌≤◌, length}
use Rattle.byte_edge.specs.Bytes.{GaveFront}
use Rattle.byte_edge.proofs.giving.give_all.Given as goal

abbrev pub invariant-loop-rest : goal.invariant-loop-rest
invariant-loop-rest g l =
    let sink = g.K.Sink in
    record {
      gave : GaveFront (sink.taken l.fn.sink) (sink.taken l.sink) l.bytes l.rest;
      counted : sink.faults l.fn.sink ≤ sink.faults l.sink;
    }

abbrev pub decreases-loop-rest : goal.decreases-loop-rest
decreases-loop-rest g l = length l.rest
