use Rattle.std.proofs.Common.{◌≡◌, ℕ, ◌+◌, ◌-◌, ◌*◌, ◌^◌}
use Rattle.kube_objects.specs.Document.{Doc}
use Rattle.history.specs.History.{history}
use Rattle.history.specs.Printed.{printed}
use Rattle.world_core.specs.Worlds.{at_of}
use Rattle.world_runs.specs.Runs.{IsGoing, Runs}
use Rattle.replay_top.specs.Counts.{AreAtMost, counts_of}
use Rattle.replay_top.proofs.generating.count_beats.Given as goal

abbrev pub invariant-beats : goal.invariant-beats
invariant-beats g l = record {
  going : IsGoing l.last.0 l.world;
  small : AreAtMost (at_of l.world * 2 ^ 64) l.counts;
  runs : (doc : Doc) (first : ℕ) → Runs doc first l.fn.steps l.fn.world
      → Runs doc first l.steps l.world × (l.counts ≡ counts_of (printed (history doc (at_of l.world))));
}

abbrev pub decreases-beats : goal.decreases-beats
decreases-beats g l = l.last.0 + 1 - at_of l.world
