use Rattle.history_examples.proofs.Evictions as worked
use Rattle.history_examples.proofs.worked_evictions.Goals as goal

pub returns-clause-unseen_put : goal.returns-clause-unseen_put
returns-clause-unseen_put c = worked.unseen_put

pub returns-clause-unseen_put_of_the_same : goal.returns-clause-unseen_put_of_the_same
returns-clause-unseen_put_of_the_same c = worked.unseen_put_of_the_same

pub returns-clause-lost_deletes : goal.returns-clause-lost_deletes
returns-clause-lost_deletes c = worked.lost_deletes

pub returns-clause-refused_by_the_node : goal.returns-clause-refused_by_the_node
returns-clause-refused_by_the_node c = worked.refused_by_the_node

pub returns-clause-refused_by_the_pod : goal.returns-clause-refused_by_the_pod
returns-clause-refused_by_the_pod c = worked.refused_by_the_pod

pub returns-clause-stale_untaint : goal.returns-clause-stale_untaint
returns-clause-stale_untaint c = worked.stale_untaint

pub returns-clause-due_moves_while_lost : goal.returns-clause-due_moves_while_lost
returns-clause-due_moves_while_lost c = worked.due_moves_while_lost

pub returns-clause-exactly_due : goal.returns-clause-exactly_due
returns-clause-exactly_due c = worked.exactly_due

pub returns-clause-not_yet_due : goal.returns-clause-not_yet_due
returns-clause-not_yet_due c = worked.not_yet_due
