use Rattle.std.proofs.Common.{[], refl, subst, sym, arith}
use Rattle.byte_edge.specs.Bytes.{GaveFront}
use Rattle.byte_edge.proofs.Fronts.{gave-more, gives-nothing}
use Rattle.byte_edge.proofs.giving.give_all.Goals as goal

pub loop-rest-init : goal.loop-rest-init
loop-rest-init g c =
    record {
      gave = record { front = []; is = refl; gives = gives-nothing (g.K.Sink.taken c.args.sink.now) };
      counted = omega arith;
    }

pub loop-rest-preserved : goal.loop-rest-preserved
loop-rest-preserved g c =
    let sink = g.K.Sink in
    let more = gave-more (sink.taken c.args.sink.now) (sink.taken c.loop-rest.sink) (sink.taken c.give.new.self) c.args.bytes.now c.loop-rest.rest.now c.in_ok-given.given c.loop-rest.invariant.gave c.in_ok-given.ensures.given.2 in
    record {
      gave = subst (GaveFront (sink.taken c.args.sink.now) (sink.taken c.give.new.self) c.args.bytes.now) (sym c.split_at.ensures.back) more;
      counted = omega (arith, c.loop-rest.invariant.counted, c.give.ensures.counted);
    }
