use Rattle.std.proofs.Common.{List}
use Rattle.kube_objects.specs.declared.deed.Deed.{Deed}
use Rattle.kube_objects.specs.Document.{Doc, processes}
use Rattle.kube_objects.specs.Entry.{Entry}
use Rattle.kube_objects.specs.Wire.{Sent, Back}
use Rattle.history.specs.Steps.{starts_below}
use Rattle.world_process.specs.Plain.{IsFew}
use Rattle.world_core.specs.Worlds.{Keeps, MidBeat}
use Rattle.world_core.proofs.world.World.first_starts.Given as goal

abbrev pub invariant-loop-i : goal.invariant-loop-i
invariant-loop-i l =
    record {
      kept : Keeps l.fn.self l.self;
      stands : (doc : Doc) (before : List Deed) (arriving : List Sent) (coming : List Back) (h : List Entry) → MidBeat doc 0 before arriving coming h l.fn.self l.fn.deeds → IsFew (starts_below doc (processes doc) h) → MidBeat doc 0 before arriving coming (starts_below doc l.i h) l.self l.deeds;
    }
