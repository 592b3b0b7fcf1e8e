use Rattle.world_agenda.proofs.Apart.{inside, world_apart}
use Rattle.world_agenda.proofs.Looking.{with-stalled}
use Rattle.world_agenda.proofs.agenda.with_stalled.Goals as goal

pub returns : goal.returns
returns c doc h due stands end d some =
    let k = c.args.at.0 in
    let p = c.args.who.0 in
    let w = c.args.world.now in
    with-stalled doc k p h c.turn_wakes.result due c.args.next c.due_beat-turn.result c.sooner_turn-next.result c.first_going.result c.sooner_beat.result c.args.from.0
    (world_apart doc k p h w stands (inside doc k p h w stands c.requires.process)) d some (c.turn_wakes.ensures doc k h stands) (c.due_beat-turn.ensures doc k h stands end)
    (c.sooner_turn-next.ensures doc k h stands end) (c.first_going.ensures doc k h stands end) c.sooner_beat.ensures
