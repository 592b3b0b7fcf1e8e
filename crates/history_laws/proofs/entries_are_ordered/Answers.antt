use Rattle.history_laws.proofs.Order as order
use Rattle.history_laws.proofs.entries_are_ordered.Goals as goal

pub returns-clause-ordered : goal.returns-clause-ordered
returns-clause-ordered c = order.entries_are_ordered

pub returns-clause-earlier : goal.returns-clause-earlier
returns-clause-earlier c = order.entries_are_earlier

pub returns-clause-turns : goal.returns-clause-turns
returns-clause-turns c = order.turns_are_positions

pub returns-clause-histories : goal.returns-clause-histories
returns-clause-histories c = order.histories_are_positions

pub returns-clause-adds : goal.returns-clause-adds
returns-clause-adds c = order.steps_only_add
