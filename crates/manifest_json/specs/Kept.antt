-- What stands beside the objects that a list has so far: their keys, and how many there are of each kind.
use Rattle.std.specs.Prelude.{◌≡◌, ◌+◌, nat_lt, List, Option, Some, None, is_some, if◌then◌else◌}
use Rattle.kube_objects.specs.declared.key.Key.{Key}
use Rattle.kube_objects.specs.declared.key.Kind.{Kind}
use Rattle.kube_objects.specs.declared.key.Kind.TheVariants as kinds
use Rattle.kube_objects.specs.declared.object.Object.{Object}
use Rattle.key_map.specs.Values.{value_at}
use Rattle.manifest_json.specs.declared.kept.Counts.{Counts}
use Rattle.manifest_json.specs.declared.kept.Kept.{Kept}
use Rattle.manifest_json.specs.declared.scale.Scale.{Scale}
use Rattle.manifest_json.specs.Walk.{has_key, kind_count, kind_limit}

-- how many objects there are of each kind
abbrev pub counts_of : List (Key × Object) → Counts
counts_of items = record { nodes = kind_count kinds.Node items; leases = kind_count kinds.Lease items; pods = kind_count kinds.Pod items }

-- one more of a kind that is not full
abbrev pub with_one : Scale → Counts → Kind → Option Counts
with_one scale c kinds.Node = if nat_lt c.nodes (kind_limit scale kinds.Node) then Some (record c { nodes = c.nodes + 1 }) else None
with_one scale c kinds.Lease = if nat_lt c.leases (kind_limit scale kinds.Lease) then Some (record c { leases = c.leases + 1 }) else None
with_one scale c kinds.Pod = if nat_lt c.pods (kind_limit scale kinds.Pod) then Some (record c { pods = c.pods + 1 }) else None

pub record Stands (k : Kept) : Type 0 where
  pub keys : (q : Key) → is_some (value_at k.keys q) ≡ has_key q k.items
  pub counts : k.counts ≡ counts_of k.items
