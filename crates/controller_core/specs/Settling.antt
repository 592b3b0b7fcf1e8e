-- Where a node waits.
use Rattle.std.specs.Prelude.{◌≡◌, ℕ, List, Option, Some, None}
use Rattle.kube_objects.specs.Entry as entry
use Rattle.kube_objects.specs.Entry.{Entry, Identity}
use Rattle.kube_objects.specs.Newest.{has}
use Rattle.kube_objects.specs.Tainting.{waits}
use Rattle.taint_zones.specs.declared.place.Place.{Place}
use Rattle.taint_zones.specs.Places.{of_place, zone_eq}
use Rattle.std.specs.Prelude.{Bool, false}

-- a node waits in this zone alone, or nowhere
abbrev pub is_zone : Option Place → Place → Bool
is_zone None zone = false
is_zone (Some place) zone = zone_eq place zone

abbrev pub IsWaitingIn : Identity → List Entry → ℕ → Option Place → Type 0
IsWaitingIn q h name place = (zone : entry.Place) → has (waits q zone name h) ≡ is_zone place (of_place zone)
