-- What a pod's due reads of its node: the taints. A node that isn't there is as one without taints.
use Rattle.std.specs.Prelude.{◌≡◌, ◌==◌, ◌&&◌, not, ℕ, Bool, false, List, [], Option, Some, None}
use Rattle.std.specs.Cmp.Lexicographic.{pointwise}
use Rattle.std.specs.Option.{option_eq}
use Rattle.kube_base.specs.declared.numbers.Version.{Version}
use Rattle.kube_objects.specs.declared.key.Key.{Key}
use Rattle.kube_objects.specs.declared.node.Taint.{Taint}
use Rattle.kube_objects.specs.declared.object.Object.{Object}
use Rattle.kube_objects.specs.declared.object.Object.TheVariants as object
use Rattle.kube_objects.specs.Newest.{has}
use Rattle.kube_objects.specs.Stored.{node_key}
use Rattle.kube_objects.specs.Tolerations.{effect_eq}
use Rattle.watch_cache.specs.declared.cache.Cache.{Cache}
use Rattle.watch_cache.specs.Kept.{is_node_in}
use Rattle.watch_cache.specs.Stands.{kept_in, stale_in}

abbrev pub taints_on : Object → List Taint
taints_on (object.Node node) = node.taints
taints_on _ = []

abbrev pub taints_in : Option (Version × Object) → List Taint
taints_in None = []
taints_in (Some x) = taints_on x.1

-- whether these are the same taints in the same order
abbrev pub taint_eq : Taint → Taint → Bool
taint_eq a b = (a.key == b.key) && ((a.value == b.value) && (effect_eq a.effect b.effect && option_eq (λ s t. s.0 == t.0) a.added b.added))

abbrev pub taints_eq : List Taint → List Taint → Bool
taints_eq = pointwise taint_eq

-- a node of that name is shown where nothing is kept
abbrev pub appears : Cache → ℕ → Option (Version × Object) → Bool
appears cache n shown = not (has (kept_in cache (node_key n))) && is_node_in shown

-- no key is stale, and the node of that name is kept with the taints that it is shown with
pub record IsSettled (cache : Cache) (n : ℕ) (shown : Option (Version × Object)) : Type 0 where
  pub fresh : (key : Key) → stale_in cache key ≡ false
  pub taints : taints_in (kept_in cache (node_key n)) ≡ taints_in shown
