use Rattle.std.proofs.Common.{◌≡◌, ◌≤◌, ◌⊎◌, List, Option, IfSome}
use Rattle.kube_objects.specs.Document.{Doc}
use Rattle.kube_objects.specs.Entry as entry
use Rattle.kube_objects.specs.Entry.{Entry, Identity}
use Rattle.taint_zones.specs.declared.place.Place.{Place}
use Rattle.taint_zones.specs.Waiting.{IsAfter}
use Rattle.controller_core.specs.HeadsStand.{IsNextHead}
use Rattle.controller_core.specs.TermStands.{TermStands}
use Rattle.controller_core.specs.Wakes.{IsTokenReading}
use Rattle.controller_core.proofs.Readying.{AreCovered}
use Rattle.controller_core.proofs.Tainting.ZoneWalk.{zones_left}
use Rattle.controller_core.proofs.term.Term.first_ready.Given as goal

abbrev pub decreases-loop-next : goal.decreases-loop-next
decreases-loop-next l = zones_left l.next

abbrev pub invariant-loop-next : goal.invariant-loop-next
invariant-loop-next l = record {
  least : l.least.0 ≤ l.fn.given.0;
  there : (doc : Doc) (q : Identity) (h : List Entry) → TermStands doc q h l.self
      → (l.least ≡ l.fn.given) ⊎ ((place : entry.Place) × IsTokenReading doc q h place l.least.0);
  walk : (c : Option Place) × IfSome l.next (λ next. IsAfter c next)
      × ((doc : Doc) (q : Identity) (h : List Entry) → TermStands doc q h l.self → IsNextHead doc q h c l.next × AreCovered doc q h c l.least.0);
}
