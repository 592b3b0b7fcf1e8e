-- The pushes of zones, and the nodes that count as pushed there.
use Rattle.std.specs.Prelude.{◌≡◌, ℕ, Bool, true, false, List, [], Option, Some, None}
use Rattle.std.specs.BTreeMap.{get}
use Rattle.std.specs.Ordering.{is_lt}
use Rattle.taint_queue.specs.declared.pushes.Pushes.{Pushes}
use Rattle.taint_queue.specs.Pushed.{counts_in, names}
use Rattle.taint_zones.specs.declared.place.Place.{Place}
use Rattle.taint_zones.specs.declared.pushes.ZonePushes.{ZonePushes}
use Rattle.taint_zones.specs.Places.{zone_cmp}
use Rattle.taint_zones.specs.Waiting.{IsAfter}

-- of a zone without a queue there is none
abbrev pub names_of : Option Pushes → List ℕ
names_of None = []
names_of (Some pushes) = names pushes

abbrev pub counts_of : Option Pushes → ℕ → Bool
counts_of None node = false
counts_of (Some pushes) node = counts_in pushes node

-- the nodes of a zone's pushes, the first one first
abbrev pub pushed_at : ZonePushes → Place → List ℕ
pushed_at pushes zone = names_of (get zone_cmp pushes.zones zone)

-- whether a node counts as pushed in a zone
abbrev pub counted_at : ZonePushes → Place → ℕ → Bool
counted_at pushes zone node = counts_of (get zone_cmp pushes.zones zone) node

-- the zones after one before this have no push, or all where there is none
abbrev pub IsNextPushed : ZonePushes → Option Place → Option Place → Type 0
IsNextPushed pushes after None = (zone : Place) → IsAfter after zone → pushed_at pushes zone ≡ []
IsNextPushed pushes after (Some next) =
    IsAfter after next × ((zone : Place) → IsAfter after zone → is_lt (zone_cmp zone next) ≡ true → pushed_at pushes zone ≡ [])
