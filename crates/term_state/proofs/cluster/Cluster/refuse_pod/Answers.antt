use Rattle.tick_laws.proofs.Tried.{pod_refused_never}
use Rattle.term_state.proofs.Aside.{stale_aside, with_cache}
use Rattle.term_state.proofs.Closing.{closed_pod}
use Rattle.term_state.proofs.cluster.Cluster.refuse_pod.Goals as goal

pub returns-clause-stands : goal.returns-clause-stands
returns-clause-stands c q h g pods s d kind =
    let old = c.args.self.now in
    let cache = c.set_stale.new.self in
    closed_pod q g c.args.pod pods (with_cache old cache) c.cancel.new.self
    (stale_aside q h g c.args.pod pods old cache d kind s (record {
      kept = c.in_ok-set_stale.ensures.kept;
      stale = c.in_ok-set_stale.ensures.stale;
      synced = c.in_ok-set_stale.ensures.synced;
      position = c.in_ok-set_stale.ensures.position;
    }))
    (pod_refused_never q h g c.args.pod d) c.cancel.ensures
