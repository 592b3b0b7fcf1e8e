-- An index of objects.
use Rattle.std.specs.Prelude.{◌≡◌, ℕ, Option}
use Rattle.kube_base.specs.declared.numbers.Version.{Version}
use Rattle.kube_objects.specs.declared.key.Key.{Key}
use Rattle.kube_objects.specs.declared.object.Object.{Object}
use Rattle.kube_objects.specs.Stored.{node_key}
use Rattle.watch_cache.specs.declared.index.Index.{Index}
use Rattle.watch_cache.specs.Kept.{is_node_in, is_pod_in}
use Rattle.watch_cache.specs.Listed.{has_node, has_pod}

-- the index lists just the nodes and pods of these objects
pub record IsIndexed (objects : Key → Option (Version × Object)) (index : Index) : Type 0 where
  pub nodes : (n : ℕ) → has_node index n ≡ is_node_in (objects (node_key n))
  pub pods : (n : ℕ) (key : Key) → has_pod index n key ≡ is_pod_in n (objects key)
