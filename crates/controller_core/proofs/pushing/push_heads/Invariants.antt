use Rattle.std.proofs.Common.{ℕ, List, Option}
use Rattle.kube_objects.specs.declared.deed.Deed.{Deed}
use Rattle.kube_objects.specs.Document.{Doc}
use Rattle.kube_objects.specs.Entry.{Entry, Identity}
use Rattle.taint_zones.specs.declared.place.Place.{Place}
use Rattle.taint_zones.specs.Limits.{LimitsStand}
use Rattle.taint_zones.specs.Pushing.{IsNextPushed}
use Rattle.term_state.specs.MidTick.{IsView, MidTick}
use Rattle.term_state.specs.Sights.{spent}
use Rattle.controller_core.specs.Costs.{HaveCost}
use Rattle.controller_core.specs.Pushing.{PushesStand}
use Rattle.controller_core.proofs.Pushed.PushWalk.{Walking}
use Rattle.controller_core.proofs.Tainting.ZoneWalk.{zones_left}
use Rattle.controller_core.proofs.pushing.push_heads.Given as goal

abbrev pub invariant-loop-next : goal.invariant-loop-next
invariant-loop-next g l =
    (doc : Doc) (q : Identity) (k : ℕ) (before : List Deed) (h : List Entry) → MidTick doc q k before h l.fn.cluster l.fn.store l.fn.told → LimitsStand doc q h l.fn.zones → PushesStand doc q h l.fn.zones.pushes
    → IsView doc k q h l.view → (now : List Entry) × (c : Option Place) × Walking doc q k before h now c l.zones l.cluster l.store l.view l.told × IsNextPushed l.zones.pushes c l.next
    × HaveCost q k h now (spent l.fn.cluster l.fn.steps) (spent l.cluster l.steps)

abbrev pub decreases-loop-next : goal.decreases-loop-next
decreases-loop-next g l = zones_left l.next
