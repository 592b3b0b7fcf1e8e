-- Since when nodes wait in zones.
use Rattle.std.specs.Prelude.{◌≡◌, ℕ, Bool, true, false, cond, Option, Some, None, unwrap_or}
use Rattle.std.specs.BTreeMap.{BTreeMap, get}
use Rattle.std.specs.Ordering.{nat_cmp, is_lt}
use Rattle.taint_zones.specs.declared.place.Place.{Place}
use Rattle.taint_zones.specs.declared.queues.Queues.{Queues}
use Rattle.taint_zones.specs.Homes.{since_at}
use Rattle.taint_zones.specs.Places.{zone_cmp, zone_eq}

-- the beat since which a node waits in a zone, if it does
abbrev pub since : Queues → Place → ℕ → Option ℕ
since queues zone node = since_at queues.zones zone node

-- the one zone in which a node may wait
abbrev pub home : Queues → ℕ → Option Place
home queues node = get nat_cmp queues.homes node

abbrev pub is_place : Place → Option Place → Bool
is_place place None = false
is_place place (Some other) = zone_eq other place

-- a node that waits in this place since a beat keeps it, and one that comes to it waits since the given one
abbrev pub moved_in : Option Place → Place → ℕ → Option ℕ → Option ℕ
moved_in None zone at old = None
moved_in (Some place) zone at old = cond (zone_eq place zone) (Some (unwrap_or old at)) None

-- every zone comes after none
abbrev pub IsAfter : Option Place → Place → Type 0
IsAfter None zone = Unit {0}
IsAfter (Some place) zone = is_lt (zone_cmp place zone) ≡ true

-- the zones after one before this have nothing in a map, or all where there is none
abbrev pub IsNextPlace : {V : Type 0} → BTreeMap Place V → Option Place → Option Place → Type 0
IsNextPlace zones after None = (zone : Place) → IsAfter after zone → get zone_cmp zones zone ≡ None
IsNextPlace zones after (Some next) =
    IsAfter after next × ((zone : Place) → IsAfter after zone → is_lt (zone_cmp zone next) ≡ true → get zone_cmp zones zone ≡ None)

abbrev pub IsEmpty : Queues → Place → Type 0
IsEmpty queues zone = (node : ℕ) → since queues zone node ≡ None

-- the zones after one before this have nobody who waits, or all where there is none
abbrev pub IsNextZone : Queues → Option Place → Option Place → Type 0
IsNextZone queues after None = (zone : Place) → IsAfter after zone → IsEmpty queues zone
IsNextZone queues after (Some next) =
    IsAfter after next × ((zone : Place) → IsAfter after zone → is_lt (zone_cmp zone next) ≡ true → IsEmpty queues zone)
