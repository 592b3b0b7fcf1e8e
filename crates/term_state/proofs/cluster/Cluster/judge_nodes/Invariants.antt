use Rattle.std.proofs.Common.{◌≡◌, ◌||◌, ℕ, true, List, length}
use Rattle.kube_objects.specs.declared.key.Key.{Key}
use Rattle.kube_objects.specs.Entry.{Entry, Identity}
use Rattle.kube_objects.specs.Newest.{has}
use Rattle.kube_objects.specs.Seen.{is_synced, seen_node}
use Rattle.watch_cache.specs.Listed.{is_named}
use Rattle.term_state.specs.ClusterStands.{ClusterBut, has_moved, no_pod}
use Rattle.term_state.specs.Sights.{IsRetained, has_touched, touched_len}
use Rattle.term_state.proofs.cluster.Cluster.judge_nodes.Given as goal

abbrev pub decreases-loop-name : goal.decreases-loop-name
decreases-loop-name l = length l.rest

abbrev pub invariant-loop-name : goal.invariant-loop-name
invariant-loop-name l = record {
  stands : (q : Identity) (h : List Entry) → ClusterBut q h (λ n. has (seen_node q n h)) no_pod l.fn.self → is_synced q h ≡ true
      → ClusterBut q h (λ n. is_named l.rest n) no_pod l.self;
  retained : IsRetained l.fn.self l.self;
  touched : (key : Key) → has_touched l.self key ≡ has_touched l.fn.self key;
  untouched : touched_len l.self ≡ touched_len l.fn.self;
  moved : (n : ℕ) → (is_named l.rest n || has_moved l.self n) ≡ (is_named l.initial.rest n || has_moved l.fn.self n);
}
