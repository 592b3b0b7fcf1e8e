-- What queues of zones keep.
use Rattle.std.specs.Prelude.{◌≡◌, ℕ, Option, Some, None}
use Rattle.std.specs.BTreeMap.{BTreeMap, get}
use Rattle.std.specs.Ordering.{nat_cmp}
use Rattle.kube_base.specs.declared.numbers.Beat.{Beat}
use Rattle.taint_queue.specs.Queue.{waits_since}
use Rattle.taint_queue.specs.declared.queue.Queue.{Queue}
use Rattle.taint_zones.specs.declared.place.Place.{Place}
use Rattle.taint_zones.specs.Places.{zone_cmp}

abbrev pub beat_number : Option Beat → Option ℕ
beat_number None = None
beat_number (Some beat) = Some beat.0

abbrev pub since_in : Option Queue → ℕ → Option ℕ
since_in None node = None
since_in (Some queue) node = beat_number (waits_since queue node)

abbrev pub since_at : BTreeMap Place Queue → Place → ℕ → Option ℕ
since_at zones zone node = since_in (get zone_cmp zones zone) node

-- a node waits in its own zone alone
abbrev pub AreHome : BTreeMap Place Queue → BTreeMap ℕ Place → Type 0
AreHome zones homes = (zone : Place) (node at : ℕ) → since_at zones zone node ≡ Some at → get nat_cmp homes node ≡ Some zone
