use Rattle.std.proofs.Common.{◌≡◌, ◌<◌, true, List, length}
use Rattle.kube_objects.specs.Entry.{Entry, Identity}
use Rattle.kube_objects.specs.Newest.{has}
use Rattle.kube_objects.specs.Seen.{is_synced, seen_node}
use Rattle.kube_objects.specs.Modes.{nodes}
use Rattle.term_state.specs.ClusterStands.{ClusterStands}
use Rattle.controller_core.proofs.Passing.Numbered.{Counting}
use Rattle.controller_core.proofs.pass.counting.count.Given as goal
use Rattle.watch_cache.specs.Told.{AreNamed}

abbrev pub decreases-loop-name : goal.decreases-loop-name
decreases-loop-name l = length l.rest

abbrev pub invariant-loop-name : goal.invariant-loop-name
invariant-loop-name l = record {
  counting : (q : Identity) (h : List Entry) → ClusterStands q h l.fn.cluster → is_synced q h ≡ true → AreNamed (λ n. has (seen_node q n h)) l.fn.names → length (nodes q h) < 4294967296
      → Counting q h l.fn.names l.rest l.counts;
}
