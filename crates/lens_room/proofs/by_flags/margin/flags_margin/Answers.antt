use Rattle.std.proofs.Common.{◌∙◌}
use Rattle.lens_room.proofs.FlagNumbers.{numbers-are}
use Rattle.lens_room.proofs.by_flags.margin.flags_margin.Goals as goal

pub returns : goal.returns
returns c = c.margin_at.ensures ∙ numbers-are c.args.flags.now c.are_still.result c.acting.result c.are_still.ensures c.acting.ensures.is
