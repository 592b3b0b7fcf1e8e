use Rattle.std.proofs.Common.{◌≡◌, true, List, length}
use Rattle.kube_objects.specs.Document.{Doc}
use Rattle.kube_objects.specs.Entry.{Entry, Identity}
use Rattle.kube_objects.specs.Seen.{is_synced}
use Rattle.term_state.specs.ClusterStands.{ClusterStands}
use Rattle.controller_core.specs.Looking.{HeldStand}
use Rattle.controller_core.proofs.Passing.Ahead.{LookingAhead}
use Rattle.controller_core.proofs.pass.found.looks_before.Given as goal
use Rattle.zone_counts.specs.Settings.{AreSettings}

abbrev pub decreases-loop-name : goal.decreases-loop-name
decreases-loop-name l = length l.rest

abbrev pub invariant-loop-name : goal.invariant-loop-name
invariant-loop-name l = record {
  looking : (doc : Doc) (q : Identity) (h : List Entry) → ClusterStands q h l.fn.cluster → is_synced q h ≡ true → AreSettings doc l.fn.settings → HeldStand q h l.fn.held
      → LookingAhead doc q h l.fn.names l.rest l.looks.items;
}
