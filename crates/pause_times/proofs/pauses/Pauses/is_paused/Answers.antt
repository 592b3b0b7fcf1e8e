use Rattle.std.proofs.Common.{◌∙◌}
use Rattle.kube_objects.specs.Pauses.{pause_end}
use Rattle.pause_times.proofs.Ends.{has-end}
use Rattle.pause_times.proofs.pauses.Pauses.is_paused.Goals as goal

pub returns : goal.returns
returns c doc p s = c.is_some.ensures ∙ has-end c.end_at.result (pause_end doc p c.args.beat.0) (c.end_at.ensures doc p s)
