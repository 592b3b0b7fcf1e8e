use Rattle.std.proofs.Common.{sym, ◌∙◌}
use Rattle.lens_explain.proofs.Stops.{some_byte}
use Rattle.lens_explain.proofs.stop.stop_of.Goals as goal

pub low_of-requires : goal.low_of-requires
low_of-requires c = some_byte c.args.input.now (sym c.in_ok-can_go_on.ensures ∙ c.if-branch.false)
