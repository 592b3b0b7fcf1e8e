-- How many nodes of each zone are ready, and how many aren't. Source: the node lifecycle controller of Kubernetes, zone states.
use Rattle.std.specs.Prelude.{◌≡◌, ℕ, ◌+◌, min, nat_lt, Bool, true, false, List, map, Option, Some, None}
use Rattle.std.specs.BTreeMap.{get}
use Rattle.kube_objects.specs.declared.node.Node.{Node}
use Rattle.kube_objects.specs.Entry as model
use Rattle.kube_objects.specs.Modes.{ready_in, other_in, size_in, places}
use Rattle.kube_objects.specs.Modes as modes
use Rattle.kube_objects.specs.Newest.{has}
use Rattle.kube_objects.specs.Zones.{state_of}
use Rattle.zone_counts.specs.declared.counts.Count.{Count}
use Rattle.zone_counts.specs.declared.counts.Counts.{Counts}
use Rattle.zone_counts.specs.declared.counts.ZoneCount.{ZoneCount}
use Rattle.taint_zones.specs.Places.{of_place, zone_cmp}

-- the count that is kept for a zone
abbrev pub count_at : Counts → model.Place → Option Count
count_at counts place = get zone_cmp counts.zones (of_place place)

abbrev pub ready_at : Option Count → ℕ
ready_at None = 0
ready_at (Some count) = count.ready

abbrev pub others_at : Option Count → ℕ
others_at None = 0
others_at (Some count) = count.others

-- a count stays at the greatest u32
abbrev pub one_more : ℕ → ℕ
one_more n = min (n + 1) 4294967295

-- with one node more, that is ready or isn't
abbrev pub and_one : Bool → Option Count → Count
and_one true count = record { ready = one_more (ready_at count); others = others_at count }
and_one false count = record { ready = ready_at count; others = one_more (others_at count) }

-- the counts are those of these nodes
pub record CountsStand (nodes : List Node) (counts : Counts) : Type 0 where
  pub there : (place : model.Place) → has (count_at counts place) ≡ nat_lt 0 (size_in place nodes)
  pub ready : (place : model.Place) → ready_at (count_at counts place) ≡ ready_in place nodes
  pub others : (place : model.Place) → others_at (count_at counts place) ≡ other_in place nodes

abbrev pub zone_count : List Node → model.Place → ZoneCount
zone_count nodes place = record { place = of_place place; ready = ready_in place nodes; others = other_in place nodes }

-- each zone of these nodes, in order
abbrev pub zone_counts : List Node → List ZoneCount
zone_counts nodes = map (zone_count nodes) (places nodes)

abbrev pub is_full : ZoneCount → ℕ → Bool
is_full zone percent = modes.is_full (state_of zone.ready zone.others percent)
