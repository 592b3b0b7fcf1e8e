use Rattle.std.proofs.Common.{ℕ, List}
use Rattle.history.specs.Steps.{deliver_all}
use Rattle.kube_objects.specs.declared.deed.Deed.{Deed}
use Rattle.kube_objects.specs.Document.{Doc, processes}
use Rattle.kube_objects.specs.Entry.{Entry}
use Rattle.kube_objects.specs.Wire.{Sent, Back}
use Rattle.wire_calls.specs.WireStands.{replies_at}
use Rattle.world_process.specs.Plain.{BackToKnown, IsFew}
use Rattle.world_core.specs.Worlds.{Keeps, MidBeat}
use Rattle.world_core.proofs.Loops.{Delivering}
use Rattle.world_core.proofs.world.World.deliver_replies.Given as goal

abbrev pub invariant-coming : goal.invariant-coming
invariant-coming l =
    record {
      kept : Keeps l.fn.self l.self;
      stands : (doc : Doc) (k : ℕ) (before : List Deed) (arriving : List Sent) (coming : List Back) (h : List Entry) → MidBeat doc k before arriving coming h l.fn.self l.fn.deeds → BackToKnown (processes doc) h coming → IsFew (deliver_all doc k coming h) → Delivering doc k before arriving coming h l.self l.deeds;
    }

abbrev pub decreases-coming : goal.decreases-coming
decreases-coming l = replies_at l.self.wire l.self.beat.0
