use Rattle.std.proofs.Common.{◌≡◌, ◌&&◌, not, None, ap, ◌∙◌}
use Rattle.kube_objects.specs.Keys.{key_eq}
use Rattle.kube_objects.specs.Stored.{node_key}
use Rattle.key_map.specs.Values.{value_at}
use Rattle.watch_cache.specs.Kept.{is_node_in, is_pod_in}
use Rattle.watch_cache.specs.Listed.{has_node, has_pod}
use Rattle.watch_cache.proofs.IndexLaws.{indexed_as, indexed_out, with}
use Rattle.watch_cache.proofs.objects.Objects.take_out.Goals as goal

pub invariant_of-self : goal.invariant_of-self
invariant_of-self c =
    let old = c.args.self.now in
    let key = c.args.key in
    let objects = value_at old.map in
    let was : c.remove-old.result ≡ objects key = c.remove-old.ensures.old in
    record {
      indexed = indexed_as (with key None objects) (value_at c.remove-old.new.self) c.unlist.new.index
          (indexed_out objects old.index c.unlist.new.index key old.indexed
          (λ n. c.unlist.ensures.nodes n ∙ ap (λ o. not (key_eq key (node_key n) && is_node_in o) && has_node old.index n) was)
          (λ n k. c.unlist.ensures.pods n k ∙ ap (λ o. not (is_pod_in n o && key_eq key k) && has_pod old.index n k) was))
          c.remove-old.ensures.taken;
    }
