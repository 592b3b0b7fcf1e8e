use Rattle.std.proofs.Common.{ℕ, List}
use Rattle.kube_objects.specs.declared.deed.Deed.{Deed}
use Rattle.kube_objects.specs.Document.{Doc, processes}
use Rattle.kube_objects.specs.Entry.{Entry}
use Rattle.kube_objects.specs.Wire.{Sent, Back}
use Rattle.history.specs.Steps.{turns}
use Rattle.beat_laws.specs.Unticked.{IsUnticked}
use Rattle.world_process.specs.Plain.{IsFew}
use Rattle.world_core.specs.Worlds.{AreInTime, Keeps, MidBeat}
use Rattle.world_core.proofs.world.World.turns.Given as goal

abbrev pub invariant-loop-i : goal.invariant-loop-i
invariant-loop-i g l =
    record {
      kept : Keeps l.fn.self l.self;
      stands : (doc : Doc) (k : ℕ) (before : List Deed) (arriving : List Sent) (coming : List Back) (h : List Entry) → MidBeat doc k before arriving coming h l.fn.self l.fn.deeds → IsUnticked k h → AreInTime k h → IsFew (turns doc k (processes doc) h) → MidBeat doc k before arriving coming (turns doc k l.i h) l.self l.deeds;
    }
