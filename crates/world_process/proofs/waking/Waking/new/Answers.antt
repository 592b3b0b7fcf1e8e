use Rattle.std.proofs.Common.{refl}
use Rattle.world_process.proofs.waking.Waking.new.Goals as goal

pub returns : goal.returns
returns c clock = record { tells = λ j within. refl; within = tt }
