use Rattle.std.proofs.Common.{◌∙◌}
use Rattle.pause_times.proofs.Ends.{ends-are, pauses-in_order}
use Rattle.pause_times.proofs.pauses.Pauses.end_at.Goals as goal

pub returns : goal.returns
returns c doc p s = c.end_among.ensures (pauses-in_order doc p c.args.self.now s) ∙ ends-are doc p c.args.beat.0 c.args.self.now s
