use Rattle.lens_room.proofs.Sums.{durations-sum}
use Rattle.lens_room.proofs.by_flags.duration.durations_are_sums.Goals as goal

pub returns : goal.returns
returns c amounts most = durations-sum amounts most
