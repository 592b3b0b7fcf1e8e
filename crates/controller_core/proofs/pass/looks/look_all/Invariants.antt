use Rattle.std.proofs.Common.{ℕ, List, length}
use Rattle.kube_objects.specs.declared.deed.Deed.{Deed}
use Rattle.kube_objects.specs.Document.{Doc}
use Rattle.kube_objects.specs.Entry.{Entry, Identity, Pass}
use Rattle.kube_objects.specs.Newest.{has}
use Rattle.kube_objects.specs.Seen.{seen_node}
use Rattle.kube_objects.specs.Tick.{add}
use Rattle.node_health.specs.Stands.{HealthStands, IsGraceOf}
use Rattle.term_state.specs.MidTick.{IsView, MidTick}
use Rattle.term_state.specs.Sights.{spent}
use Rattle.controller_core.specs.Working.{WritesStand}
use Rattle.controller_core.proofs.Passing.Looking.{Looking}
use Rattle.controller_core.proofs.pass.looks.look_all.Given as goal
use Rattle.watch_cache.specs.Told.{AreNamed}

abbrev pub decreases-loop-name : goal.decreases-loop-name
decreases-loop-name g l = length l.rest

abbrev pub invariant-loop-name : goal.invariant-loop-name
invariant-loop-name g l = record {
  looking : (doc : Doc) (k : ℕ) (q : Identity) (before : List Deed) (h : List Entry) → MidTick doc q k before (add k q Pass h) l.fn.cluster l.fn.store l.fn.told → HealthStands doc q h l.fn.health
      → IsView doc k q h l.fn.view → IsGraceOf doc l.fn.grace → AreNamed (λ n. has (seen_node q n h)) l.fn.names
      → WritesStand doc q h (add k q Pass h) l.fn.writes
      → Looking doc k q before h l.fn.names l.rest l.fn.view l.cluster l.health l.store l.told l.writes (spent l.fn.cluster l.fn.steps) (spent l.cluster l.steps);
}
