use Rattle.std.proofs.Common.{sym, subst}
use Rattle.world_process.specs.Beats.{IsBeatOf}
use Rattle.world_process.proofs.waking.Waking.keep.Goals as goal

pub returns-then-is_same-clause-found : goal.returns-then-is_same-clause-found
returns-then-is_same-clause-found c kept = subst (IsBeatOf c.args.clock.now c.args.self.now.until) (sym (c.is_same.ensures c.if-is_same.true)) kept

pub returns-clause-kept : goal.returns-clause-kept
returns-clause-kept c kept = subst (IsBeatOf c.args.clock.now c.find.new.self.until) (sym c.find.ensures.below) c.find.ensures.beat
