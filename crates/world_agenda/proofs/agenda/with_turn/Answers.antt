use Rattle.std.proofs.Common.{ap, subst}
use Rattle.world_core.specs.Waits.{beat_of}
use Rattle.world_agenda.specs.Woken.{IsStalledFrom}
use Rattle.world_agenda.proofs.Apart.{inside, world_apart}
use Rattle.world_agenda.proofs.Looking.{next-due, with-turn}
use Rattle.world_agenda.proofs.agenda.with_turn.Goals as goal

pub returns-in-None : goal.returns-in-None
returns-in-None c doc h stands end wakes calm =
    let k = c.args.at.0 in
    let p = c.args.who.0 in
    with-turn doc k p h c.args.wakes.now c.args.next c.due_beat-due.result c.sooner_turn.result (world_apart doc k p h c.args.world.now stands (inside doc k p h c.args.world.now stands c.requires.process)) calm wakes
    (c.due_beat-due.ensures doc k h stands end) (subst (λ o. IsStalledFrom doc p (beat_of c.due_beat-due.result) (beat_of o)) c.in-None.is (c.stalled_from.ensures doc k h stands end)) (c.sooner_turn.ensures doc k h stands end)

pub returns-in-Some : goal.returns-in-Some
returns-in-Some c doc h stands end wakes calm =
    let k = c.args.at.0 in
    let p = c.args.who.0 in
    c.with_stalled.ensures doc h (beat_of c.due_beat-due.result) stands end (next-due doc k p h c.args.wakes.now c.due_beat-due.result calm wakes (c.due_beat-due.ensures doc k h stands end))
    ((c.stalled_from.ensures doc k h stands end).there c.in-Some.from.0 (ap beat_of c.in-Some.is))
