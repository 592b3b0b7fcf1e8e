use Rattle.std.proofs.Common.{◌≡◌, ℕ, List, length}
use Rattle.kube_objects.specs.declared.deed.Deed.{Deed}
use Rattle.kube_objects.specs.Document.{Doc}
use Rattle.kube_objects.specs.Entry.{Entry, Identity}
use Rattle.controller_core.proofs.Passing.ZoneWalk.{IsOwed, Zoning}
use Rattle.controller_core.proofs.pass.zones.set_zones.Given as goal

abbrev pub invariant-loop-zone : goal.invariant-loop-zone
invariant-loop-zone g l =
    record {
      zoning : (doc : Doc) (k : ℕ) (q : Identity) (before : List Deed) (h : List Entry)
          → IsOwed doc k q before h l.counts l.on l.fn.zones l.settings l.view.now.0 l.fn.told → Zoning doc k q before h l.rest l.kept l.zones l.told;
      queues : l.zones.queues ≡ l.fn.zones.queues;
      pushes : l.zones.pushes ≡ l.fn.zones.pushes;
    }

abbrev pub decreases-loop-zone : goal.decreases-loop-zone
decreases-loop-zone g l = length l.rest
