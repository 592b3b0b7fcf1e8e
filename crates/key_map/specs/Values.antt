-- What a map from keys holds.
use Rattle.std.specs.Prelude.{Option}
use Rattle.kube_objects.specs.declared.key.Key.{Key}
use Rattle.kube_objects.specs.declared.key.Kind.{Kind}
use Rattle.kube_objects.specs.declared.key.Kind.TheVariants.{Node, Lease, Pod}
use Rattle.key_map.specs.declared.map.KeyMap.{KeyMap}
use Rattle.key_map.specs.declared.shelf.Shelf.{Shelf}
use Rattle.key_map.specs.Held.{held}

-- where the values of a kind are
abbrev pub shelf_of : {V : Type 0} → KeyMap V → Kind → Shelf V
shelf_of map Node = map.nodes
shelf_of map Lease = map.leases
shelf_of map Pod = map.pods

-- the value under a key, if there is one
unfoldable pub value_at : {V : Type 0} → KeyMap V → Key → Option V
value_at map key = held (shelf_of map key.kind) key.space key.name
