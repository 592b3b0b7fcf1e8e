use Rattle.std.proofs.Common.{◌≡◌, ℕ, List, Option}
use Rattle.kube_objects.specs.declared.deed.Deed.{Deed}
use Rattle.kube_objects.specs.Document.{Doc}
use Rattle.kube_objects.specs.Entry.{Entry, Identity}
use Rattle.kube_objects.specs.declared.rules.JudgeRule.TheVariants as judges
use Rattle.taint_zones.specs.declared.place.Place.{Place}
use Rattle.taint_zones.specs.Waiting.{IsNextZone}
use Rattle.term_state.specs.MidTick.{IsView}
use Rattle.term_state.specs.Sights.{spent}
use Rattle.controller_core.specs.Costs.{HaveCost}
use Rattle.controller_core.specs.Heading.{Heading}
use Rattle.controller_core.proofs.Tainting.ZoneWalk.{Walking, zones_left}
use Rattle.controller_core.proofs.taint.taint.Given as goal

abbrev pub invariant-loop-next : goal.invariant-loop-next
invariant-loop-next g l =
    (doc : Doc) (q : Identity) (k : ℕ) (before : List Deed) (h : List Entry) → doc.settings.rules.judge ≡ judges.Tick → Heading doc q k before h l.fn.zones l.fn.cluster l.fn.store l.fn.told → IsView doc k q h l.view
    → (now : List Entry) × (c : Option Place) × Walking doc q k before h now c l.zones l.cluster l.store l.view l.told × IsNextZone l.zones.queues c l.next
    × HaveCost q k h now (spent l.fn.cluster l.fn.steps) (spent l.cluster l.steps)

abbrev pub decreases-loop-next : goal.decreases-loop-next
decreases-loop-next g l = zones_left l.next
