use Rattle.std.proofs.Common.{◌≡◌, ℕ, ◌+◌, ◌-◌}
use Rattle.kube_objects.specs.Document.{Doc}
use Rattle.world_core.specs.Worlds.{at_of, names_of}
use Rattle.world_runs.specs.Runs.{IsGoing, Runs}
use Rattle.world_runs.proofs.runs.run_up_to.Given as goal

abbrev pub invariant-beats : goal.invariant-beats
invariant-beats g l = record {
  going : IsGoing l.last.0 l.world;
  names : names_of l.world ≡ names_of l.fn.world;
  runs : (doc : Doc) (first : ℕ) → Runs doc first l.fn.steps l.fn.world → Runs doc first l.steps l.world;
}

abbrev pub decreases-beats : goal.decreases-beats
decreases-beats g l = l.last.0 + 1 - at_of l.world
