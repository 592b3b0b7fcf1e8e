use Rattle.std.proofs.Common.{ℕ, ◌-◌, List}
use Rattle.kube_objects.specs.declared.deed.Deed.{Deed}
use Rattle.kube_objects.specs.Document.{Doc}
use Rattle.kube_objects.specs.Entry.{Entry}
use Rattle.kube_objects.specs.Wire.{Sent, Back}
use Rattle.history.specs.Steps.{happen_all}
use Rattle.world_process.specs.Plain.{IsFew}
use Rattle.world_core.specs.Worlds.{IsReady, IsPlaced, SameDocument, MidBeat}
use Rattle.world_core.proofs.Happening.{Happening}
use Rattle.world_core.proofs.world.World.script.Given as goal

abbrev pub invariant-script : goal.invariant-script
invariant-script l =
    record {
      ready : IsReady l.self;
      same : SameDocument l.fn.self l.self;
      stands : (doc : Doc) (k : ℕ) (before : List Deed) (arriving : List Sent) (coming : List Back) (h : List Entry) → MidBeat doc k before arriving coming h l.fn.self l.fn.deeds → IsPlaced doc k l.fn.self.place → IsFew (happen_all doc k doc.events h) → Happening doc k before arriving coming h l.self l.deeds;
    }

abbrev pub decreases-script : goal.decreases-script
decreases-script l = l.all - l.self.place
