use Rattle.settle_laws.proofs.Settled as settled
use Rattle.settle_laws.proofs.calm_spans_settle.Goals as goal

pub returns-clause-settle : goal.returns-clause-settle
returns-clause-settle c = settled.calm_spans_settle

pub returns-clause-told : goal.returns-clause-told
returns-clause-told c = settled.settling_is_told
