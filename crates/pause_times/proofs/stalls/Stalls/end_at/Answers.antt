use Rattle.std.proofs.Common.{◌∙◌}
use Rattle.pause_times.proofs.Ends.{stalls-are, stalls-in_order}
use Rattle.pause_times.proofs.stalls.Stalls.end_at.Goals as goal

pub returns : goal.returns
returns c doc s = c.end_among.ensures (stalls-in_order doc c.args.self.now s) ∙ stalls-are doc c.args.beat.0 c.args.self.now s
