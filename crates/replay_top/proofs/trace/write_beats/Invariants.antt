use Rattle.std.proofs.Common.{◌≡◌, ℕ, ◌≤◌, ◌+◌, ◌-◌}
use Rattle.byte_edge.specs.Bytes.{Taken}
use Rattle.kube_objects.specs.Document.{Doc}
use Rattle.world_core.specs.Worlds.{at_of, names_of}
use Rattle.world_runs.specs.Runs.{IsGoing, Runs}
use Rattle.replay_top.specs.Traces.{trace_before}
use Rattle.replay_top.specs.Spoken.{Spoken}
use Rattle.replay_top.proofs.trace.write_beats.Given as goal

abbrev pub invariant-beats : goal.invariant-beats
invariant-beats g l =
    let sink = g.K.Sink in
    record {
      going : IsGoing l.last.0 l.world;
      names : names_of l.world ≡ names_of l.fn.world;
      faults : sink.faults l.fn.sink ≤ sink.faults l.sink;
      runs : (doc : Doc) (first : ℕ) → Runs doc first l.fn.steps l.fn.world → Runs doc first l.steps l.world;
      said : (doc : Doc) (first : ℕ) (before : Taken) → Runs doc first l.fn.steps l.fn.world
          → Spoken before (sink.taken l.fn.sink) l.fn.buffer.text.items (trace_before doc (names_of l.fn.world) l.processes 0)
          → Spoken before (sink.taken l.sink) l.buffer.text.items (trace_before doc (names_of l.fn.world) l.processes (at_of l.world));
    }

abbrev pub decreases-beats : goal.decreases-beats
decreases-beats g l = l.last.0 + 1 - at_of l.world
