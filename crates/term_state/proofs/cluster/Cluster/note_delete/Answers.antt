use Rattle.tick_laws.proofs.Tried.{gone_never}
use Rattle.term_state.proofs.Aside.{gone_aside, with_cache}
use Rattle.term_state.specs.ClusterStands.{but_pod, no_node}
use Rattle.term_state.proofs.Closing.{closed_pod}
use Rattle.term_state.proofs.Judging.{rows_aside, with_dues}
use Rattle.term_state.proofs.cluster.Cluster.note_delete.Goals as goal

pub returns-clause-stands : goal.returns-clause-stands
returns-clause-stands c q h g pods s d kind =
    let old = c.args.self.now in
    let cache = c.note_own.new.self in
    rows_aside q g no_node (but_pod c.args.pod pods) (with_dues (with_cache old cache) c.cancel.new.self) c.end.new.self
    (closed_pod q g c.args.pod pods (with_cache old cache) c.cancel.new.self
    (gone_aside q h g c.args.pod pods old cache d kind s (record {
      kept = c.in_ok-note_own.ensures.kept;
      stale = c.in_ok-note_own.ensures.stale;
      synced = c.in_ok-note_own.ensures.synced;
      position = c.in_ok-note_own.ensures.position;
    }))
    (gone_never q h g c.args.pod d) c.cancel.ensures)
