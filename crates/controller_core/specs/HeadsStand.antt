-- The queues of zones stand for a history: of nodes that wait, or of pushes where nodes are judged at passes alone.
use Rattle.std.specs.Prelude.{◌≡◌, ◌∷◌, ℕ, true, List, Option, Some, None}
use Rattle.std.specs.Ordering.{is_lt}
use Rattle.kube_objects.specs.declared.rules.JudgeRule.{JudgeRule}
use Rattle.kube_objects.specs.declared.rules.JudgeRule.TheVariants as judges
use Rattle.kube_objects.specs.Document.{Doc}
use Rattle.kube_objects.specs.Entry as entry
use Rattle.kube_objects.specs.Entry.{Entry, Identity}
use Rattle.kube_objects.specs.Judgement.{passes, queue}
use Rattle.kube_objects.specs.Newest.{has}
use Rattle.kube_objects.specs.Tainting.{before_tick, waits}
use Rattle.taint_zones.specs.declared.place.Place.{Place}
use Rattle.taint_zones.specs.declared.zones.Zones.{Zones}
use Rattle.taint_zones.specs.Places.{entry_place, zone_cmp}
use Rattle.taint_zones.specs.Waiting.{IsAfter}
use Rattle.controller_core.specs.Pushing.{PushesStand}
use Rattle.controller_core.specs.QueuesStand.{QueuesStand}

abbrev pub HeadsStandBy : JudgeRule → Doc → Identity → List Entry → Zones → Type 0
HeadsStandBy judges.Tick doc q h zones = QueuesStand q h zones.queues
HeadsStandBy judges.Pass doc q h zones = PushesStand doc q h zones.pushes

abbrev pub HeadsStand : Doc → Identity → List Entry → Zones → Type 0
HeadsStand doc q h zones = HeadsStandBy doc.settings.rules.judge doc q h zones

-- within a tick, before its heads: who waits is as before the tick
abbrev pub HeadsBeginBy : JudgeRule → Doc → ℕ → Identity → List Entry → Zones → Type 0
HeadsBeginBy judges.Tick doc k q h zones = QueuesStand q (before_tick q k h) zones.queues
HeadsBeginBy judges.Pass doc k q h zones = PushesStand doc q h zones.pushes

abbrev pub HeadsBegin : Doc → ℕ → Identity → List Entry → Zones → Type 0
HeadsBegin doc k q h zones = HeadsBeginBy doc.settings.rules.judge doc k q h zones

-- ---- who comes first

abbrev pub HasHeadBy : JudgeRule → Doc → Identity → List Entry → entry.Place → Type 0
HasHeadBy judges.Tick doc q h place = (name : ℕ) × (has (waits q place name h) ≡ true)
HasHeadBy judges.Pass doc q h place = (name : ℕ) × (rest : List ℕ) × (queue doc q place (passes q h) ≡ name ∷ rest)

-- a node waits in the zone, or a push stands in its queue
abbrev pub HasHead : Doc → Identity → List Entry → entry.Place → Type 0
HasHead doc q h place = HasHeadBy doc.settings.rules.judge doc q h place

-- the zones after one before this have none, or all where there is none
abbrev pub IsNextHead : Doc → Identity → List Entry → Option Place → Option Place → Type 0
IsNextHead doc q h after None = (zone : Place) → IsAfter after zone → ¬ HasHead doc q h (entry_place zone)
IsNextHead doc q h after (Some next) =
    IsAfter after next × ((zone : Place) → IsAfter after zone → is_lt (zone_cmp zone next) ≡ true → ¬ HasHead doc q h (entry_place zone))
