use Rattle.std.proofs.Common.{◌∙◌, ◌||◌, Some, refl, ap}
use Rattle.kube_objects.specs.Keys.{key_eq}
use Rattle.kube_objects.specs.Stored.{node_key}
use Rattle.watch_cache.specs.Stands.{stale_in}
use Rattle.term_state.proofs.Aside.{refused_aside, refused_moved, with_cache}
use Rattle.term_state.proofs.Closing.{refused_judged, with_unclean}
use Rattle.term_state.proofs.cluster.Cluster.refuse_node.Goals as goal

pub returns-clause-stands : goal.returns-clause-stands
returns-clause-stands c q h g s d =
    let old = c.args.self.now in
    let cache = c.set_stale.new.self in
    refused_judged q h g c.args.name (with_cache old cache) c.remove.new.self d
    (refused_aside q h g c.args.name old cache d s (record {
      kept = c.in_ok-set_stale.ensures.kept;
      stale = λ key. c.in_ok-set_stale.ensures.stale key ∙ ap (λ n. key_eq n key || stale_in old.cache key) c.node.ensures;
      synced = c.in_ok-set_stale.ensures.synced;
      position = c.in_ok-set_stale.ensures.position;
    }))
    c.remove.ensures.updates

pub returns-clause-moved : goal.returns-clause-moved
returns-clause-moved c q k h g s beneath d =
    refused_moved q h g (Some (node_key c.args.name)) d k c.args.self.now (with_unclean (with_cache c.args.self.now c.set_stale.new.self) c.remove.new.self) beneath (λ n. refl) s
