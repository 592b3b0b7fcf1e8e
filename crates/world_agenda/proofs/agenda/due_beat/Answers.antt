use Rattle.std.proofs.Common.{arith}
use Rattle.world_agenda.proofs.Looking.{due-later}
use Rattle.world_agenda.proofs.agenda.due_beat.Goals as goal

pub returns : goal.returns
returns c doc k h stands end =
    due-later doc c.args.at.0 c.args.who.0 c.args.wakes.now c.beat_of_waking.result c.not_before.result (omega (arith, c.requires.within, end)) c.if-wakes.false
    (c.beat_of_waking.ensures doc k h stands end) c.not_before.ensures
