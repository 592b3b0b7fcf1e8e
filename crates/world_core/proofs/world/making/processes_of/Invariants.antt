use Rattle.std.proofs.Common.{◌≡◌, ◌+◌, [], length}
use Rattle.kube_objects.specs.Document.{Doc}
use Rattle.world_core.specs.Worlds.{AreKept, AreMadeOf, EachStands, GoOnTo}
use Rattle.world_core.proofs.world.making.processes_of.Given as goal

abbrev pub invariant-loop-process : goal.invariant-loop-process
invariant-loop-process l =
    record {
      count : length l.processes.items ≡ l.process-index;
      clocks : GoOnTo l.settings.end_beat.0 l.processes.items;
      kept : AreKept l.processes.items;
      stands : (doc : Doc) → AreMadeOf doc l.settings l.controllers l.kubelets l.waits l.events → EachStands doc [] l.processes.items;
    }

abbrev pub invariant-loop-process-2 : goal.invariant-loop-process-2
invariant-loop-process-2 l =
    record {
      count : length l.processes.items ≡ length l.controllers + l.process-index;
      clocks : GoOnTo l.settings.end_beat.0 l.processes.items;
      kept : AreKept l.processes.items;
      stands : (doc : Doc) → AreMadeOf doc l.settings l.controllers l.kubelets l.waits l.events → EachStands doc [] l.processes.items;
    }
