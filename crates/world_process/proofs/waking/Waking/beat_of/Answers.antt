use Rattle.std.proofs.Common.{sym, subst}
use Rattle.world_process.specs.Beats.{IsBeatOf}
use Rattle.world_process.proofs.waking.Waking.beat_of.Goals as goal

pub returns-then-is_same : goal.returns-then-is_same
returns-then-is_same c kept = subst (IsBeatOf c.args.clock.now c.args.self.now.until) (sym (c.is_same.ensures c.if-is_same.true)) kept
