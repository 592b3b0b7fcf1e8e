-- What an index lists.
use Rattle.std.specs.Prelude.{ℕ, ◌==◌, ◌&&◌, Bool, false, List}
use Rattle.std.specs.BTreeSet.{contains}
use Rattle.std.specs.List.{list_any}
use Rattle.std.specs.Ordering.{nat_cmp, ordering_then}
use Rattle.std.specs.declared.cmp.Ordering.{Ordering}
use Rattle.kube_objects.specs.declared.key.Key.{Key}
use Rattle.kube_objects.specs.Keys.{key_cmp, key_eq}
use Rattle.watch_cache.specs.declared.index.Index.{Index}
use Rattle.watch_cache.specs.declared.listing.Listing.{Listing}
use Rattle.watch_cache.specs.declared.listing.Listing.TheVariants.{Nowhere, Node, Pod}

-- by the number of the node's name, then by the pod's key
abbrev pub placed_cmp : ℕ × Key → ℕ × Key → Ordering
placed_cmp a b = ordering_then (nat_cmp a.0 b.0) (key_cmp a.1 b.1)

abbrev pub has_node : Index → ℕ → Bool
has_node index n = contains nat_cmp index.nodes n

-- whether a pod is listed for a node
abbrev pub has_pod : Index → ℕ → Key → Bool
has_pod index n key = contains placed_cmp index.pods (n, key)

abbrev pub lists_node : Listing → ℕ → Bool
lists_node Nowhere n = false
lists_node (Node m) n = m == n
lists_node (Pod m k) n = false

abbrev pub lists_pod : Listing → ℕ → Key → Bool
lists_pod Nowhere n key = false
lists_pod (Node m) n key = false
lists_pod (Pod m k) n key = (m == n) && key_eq k key

-- whether a number stands among these
abbrev pub is_named : List ℕ → ℕ → Bool
is_named names n = list_any (λ m. m == n) names
