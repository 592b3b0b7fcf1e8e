use Rattle.std.proofs.Common.{◌≡◌, ◌≤◌, ◌+◌, ◌-◌, ◌^◌, ℕ, true, List}
use Rattle.std.specs.BTreeSet.{btree_set_len, contains}
use Rattle.kube_objects.specs.declared.key.Key.{Key}
use Rattle.kube_objects.specs.declared.pod.Due.TheVariants.{Never}
use Rattle.kube_objects.specs.Entry.{Entry, Identity}
use Rattle.kube_objects.specs.Keys.{key_cmp}
use Rattle.evict_queue.specs.Queue.{due_in}
use Rattle.evict_queue.specs.Rows.{row_in}
use Rattle.term_state.specs.ClusterStands.{ClusterBut, ClusterStands, has_moved, no_node}
use Rattle.term_state.specs.Sights.{has_touched}
use Rattle.term_state.proofs.TakingDue.{Taken}
use Rattle.term_state.proofs.cluster.Cluster.take_due.Given as goal

abbrev pub decreases-loop-pod : goal.decreases-loop-pod
decreases-loop-pod g l = 2 ^ 64 - btree_set_len l.todo

abbrev pub invariant-loop-pod : goal.invariant-loop-pod
invariant-loop-pod g l = record {
  gone : (p : Key) → contains key_cmp l.todo p ≡ true → due_in l.self.dues p ≡ Never;
  taken : Taken l.fn.self.dues l.now.0 l.todo l.self.dues;
  cluster : (q : Identity) (h : List Entry) → ClusterStands q h l.fn.self → ClusterBut q h no_node (λ p. contains key_cmp l.todo p) l.self;
  from : l.self.evict_from ≡ l.fn.self.evict_from;
  rows : (key : Key) → row_in l.self.rows key ≡ row_in l.fn.self.rows key;
  touched : (key : Key) → has_touched l.self key ≡ has_touched l.fn.self key;
  moved : (n : ℕ) → has_moved l.self n ≡ has_moved l.fn.self n;
  counted : l.steps ≤ l.fn.steps + btree_set_len l.todo;
}
