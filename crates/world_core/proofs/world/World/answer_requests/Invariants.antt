use Rattle.std.proofs.Common.{ℕ, List}
use Rattle.kube_objects.specs.declared.deed.Deed.{Deed}
use Rattle.kube_objects.specs.Document.{Doc, processes}
use Rattle.kube_objects.specs.Entry.{Entry}
use Rattle.kube_objects.specs.Wire.{Sent, Back}
use Rattle.wire_calls.specs.WireStands.{requests_at}
use Rattle.world_process.specs.Plain.{SentByKnown}
use Rattle.world_core.specs.Worlds.{Keeps, MidBeat}
use Rattle.world_core.proofs.Loops.{Answering}
use Rattle.world_core.proofs.world.World.answer_requests.Given as goal

abbrev pub invariant-arriving : goal.invariant-arriving
invariant-arriving l =
    record {
      kept : Keeps l.fn.self l.self;
      stands : (doc : Doc) (k : ℕ) (before : List Deed) (arriving : List Sent) (coming : List Back) (h : List Entry) → MidBeat doc k before arriving coming h l.fn.self l.fn.deeds → SentByKnown (processes doc) h arriving → Answering doc k before arriving coming h l.self l.deeds;
    }

abbrev pub decreases-arriving : goal.decreases-arriving
decreases-arriving l = requests_at l.self.wire l.self.beat.0
