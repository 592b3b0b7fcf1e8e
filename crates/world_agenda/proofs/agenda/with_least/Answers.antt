use Rattle.world_core.specs.Waits.{beat_of}
use Rattle.world_agenda.proofs.Apart.{inside}
use Rattle.world_agenda.proofs.Others.{beside}
use Rattle.world_agenda.proofs.agenda.with_least.Goals as goal

pub returns-in-Some : goal.returns-in-Some
returns-in-Some c doc h stands end others below =
    let k = c.args.at.0 in
    let p = c.in-Some.who.0 in
    let here = inside doc k p h c.args.world.now stands c.in-Some.ensures.range in
    beside doc k c.args.from p h (beat_of c.args.next) (beat_of c.with_turn.result) here below
    (c.with_turn.ensures doc h stands end (c.wakes.ensures doc k h stands end) (others.idle p c.if-from-who.true here))
