use Rattle.std.proofs.Common.{◌*◌, ◌&&◌, nat_lt, sym, ◌∙◌}
use Rattle.lens_room.proofs.FlagNumbers.{premise-is}
use Rattle.lens_room.proofs.by_flags.margin.is_safe.Goals as goal

pub returns : goal.returns
returns c =
    c.is_enough.ensures
    ∙ (λ i. c.are_still.ensures i && nat_lt (c.acting.ensures.is i * c.from-fastest.ensures i) (c.from.ensures i * 1000 * c.from-slowest.ensures i))
    ∙ sym (premise-is c.args.flags.now)
