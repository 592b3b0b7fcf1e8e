use Rattle.history_examples.proofs.Failover as worked
use Rattle.history_examples.proofs.worked_failover.Goals as goal

pub returns : goal.returns
returns c = worked.dead_node_and_failover
