use Rattle.term_state.proofs.cluster.Cluster.judge_pod.Goals as goal

pub returns-clause-stands : goal.returns-clause-stands
returns-clause-stands g c q h nodes pods s synced = c.judge_like.ensures.stands q h nodes pods s synced tt
