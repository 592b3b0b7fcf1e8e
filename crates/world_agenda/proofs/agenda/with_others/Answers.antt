use Rattle.std.proofs.Common.{Some, None, arith}
use Rattle.kube_objects.specs.Document.{processes}
use Rattle.world_core.specs.Waits.{beat_of}
use Rattle.world_agenda.proofs.Apart.{inside}
use Rattle.world_agenda.proofs.Others.{only-later, passed-over}
use Rattle.world_agenda.proofs.Looking.{turn-added}
use Rattle.world_agenda.proofs.agenda.with_others.Goals as goal

pub others-preserved : goal.others-preserved
others-preserved c =
    let from = c.in-Some.ensures.range.0 in
    let least = c.others.invariant.least in
    record {
      least = omega (arith, least, from);
      below = λ doc h stands end others below.
          let k = c.args.at.0 in
          let p = c.in-Some.who.0 in
          let next = beat_of c.others.next in
          let here = inside doc k p h c.args.world.now stands c.in-Some.ensures.range.1 in
          let now = only-later doc k c.args.from c.others.from least others in
          let to = passed-over doc k c.others.from p h next (Some c.in-Some.who) now (c.others.invariant.below doc h stands end others below) (c.in-Some.ensures.first doc k h stands end) (omega (arith, here)) (λ q less. less) in
          turn-added doc k p h next (beat_of c.with_turn-next.result) c.next_beats_are_soonest.ensures.more here to
          (c.with_turn-next.ensures doc h stands end (c.wakes.ensures doc k h stands end) (now.idle p from here));
    }

pub returns : goal.returns
returns c doc h stands end others below =
    let k = c.args.at.0 in
    let now = only-later doc k c.args.from c.others.from c.others.invariant.least others in
    passed-over doc k c.others.from (processes doc) h (beat_of c.others.next) None now (c.others.invariant.below doc h stands end others below) (c.in_default.ensures.first doc k h stands end) (omega arith) (λ q less. tt)
