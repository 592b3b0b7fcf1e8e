use Rattle.term_state.specs.ClusterStands.{but_node}
use Rattle.term_state.proofs.cluster.Cluster.judge_node_alone.Goals as goal

pub returns-clause-stands : goal.returns-clause-stands
returns-clause-stands c q h nodes pods s synced =
    c.set_moved.ensures.stands q h (but_node c.args.name nodes) pods (c.in_ok-set_unclean.ensures.stands q h nodes pods s (c.is_dirty-dirty.ensures q h nodes pods s synced))
