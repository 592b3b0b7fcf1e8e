use Rattle.std.proofs.Common.{◌∙◌}
use Rattle.world_agenda.proofs.Waking.{woken-both}
use Rattle.world_agenda.proofs.agenda.beat_of_waking.Goals as goal

pub returns : goal.returns
returns c doc k h stands end =
    woken-both doc c.args.who.0 c.args.wakes.now c.clock.result.now c.turn_beat.result c.delete_beat.result c.sooner_beat.result
    (c.turn_beat.ensures doc k h stands end) c.delete_beat.ensures (c.clock.ensures.stands doc k h stands) (c.clock.ensures.end c.requires.ready ∙ end) c.sooner_beat.ensures
