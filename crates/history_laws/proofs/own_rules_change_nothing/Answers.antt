use Rattle.history_laws.proofs.OwnRules as proved
use Rattle.history_laws.proofs.own_rules_change_nothing.Goals as goal

pub returns : goal.returns
returns c = proved.own_rules_change_nothing
