use Rattle.calm_laws.proofs.Bounded as bounded
use Rattle.calm_laws.proofs.takeovers_are_bounded.Goals as goal

pub returns-clause-bounded : goal.returns-clause-bounded
returns-clause-bounded c = bounded.takeovers_are_bounded

pub returns-clause-told : goal.returns-clause-told
returns-clause-told c = bounded.takeovers_are_told
