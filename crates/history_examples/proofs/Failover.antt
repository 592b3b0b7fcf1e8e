-- The cluster with a dead node and a failover, shown by computation.
use Rattle.std.specs.Prelude.{refl}
use Rattle.kube_objects.specs.Document.{of_seconds, of_millis}
use Rattle.kube_objects.specs.Tokens.{token_size}
use Rattle.history_examples.specs.Failover.{DeadNodeAndFailover}

pub dead_node_and_failover : DeadNodeAndFailover
unfolding of_seconds of_millis token_size
dead_node_and_failover = refl
