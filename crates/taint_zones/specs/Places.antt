-- Zones, and their order, as the derived `cmp` has it.
use Rattle.std.specs.Prelude.{Bool}
use Rattle.std.specs.Ordering.{nat_cmp, ordering_then, eq_by_cmp}
use Rattle.std.specs.declared.cmp.Ordering.{Ordering}
use Rattle.kube_objects.specs.Entry as entry
use Rattle.taint_zones.specs.declared.place.Place.{Place}

-- a zone as the history has it, and back
abbrev pub entry_place : Place → entry.Place
entry_place place = record { region = place.region; zone = place.zone }

abbrev pub of_place : entry.Place → Place
of_place place = record { region = place.region; zone = place.zone }

-- by region, then zone
abbrev pub zone_cmp : Place → Place → Ordering
zone_cmp a b = ordering_then (nat_cmp a.region b.region) (nat_cmp a.zone b.zone)

abbrev pub zone_eq : Place → Place → Bool
zone_eq = eq_by_cmp zone_cmp
