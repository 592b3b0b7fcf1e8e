use Rattle.std.proofs.Common.{◌≡◌, ◌≤◌, ℕ, true, false, List}
use Rattle.kube_objects.specs.declared.key.Key.{Key}
use Rattle.kube_objects.specs.declared.rules.EvictRule.TheVariants.{Added, Seen}
use Rattle.kube_objects.specs.Clocks.{wall}
use Rattle.kube_objects.specs.Document.{Doc}
use Rattle.kube_objects.specs.Entry.{Entry, Identity}
use Rattle.kube_objects.specs.Seen.{is_synced}
use Rattle.term_state.specs.ClusterStands.{ClusterStands, has_moved}
use Rattle.term_state.specs.Lasts.{AreBorne, AreBounded}
use Rattle.term_state.specs.Sights.{AreSighted, IsSightKept, has_touched, spent, touched_len}
use Rattle.term_state.proofs.Settling.{Settling}
use Rattle.term_state.proofs.cluster.Cluster.settle_rows.Given as goal

abbrev pub decreases-loop-pod : goal.decreases-loop-pod
decreases-loop-pod g l = touched_len l.self

abbrev pub invariant-loop-pod : goal.invariant-loop-pod
invariant-loop-pod g l = record {
  from : l.self.evict_from ≡ l.fn.self.evict_from;
  none : l.fn.self.evict_from ≡ Added → ((key : Key) → has_touched l.fn.self key ≡ false) → (key : Key) → has_touched l.self key ≡ false;
  stands : (q : Identity) (h : List Entry) → ClusterStands q h l.fn.self → (l.fn.self.evict_from ≡ Added → (key : Key) → has_touched l.fn.self key ≡ false) → ClusterStands q h l.self;
  settling : (doc : Doc) (k : ℕ) (q : Identity) (h : List Entry) → ClusterStands q h l.fn.self → is_synced q h ≡ true → l.fn.self.evict_from ≡ Seen → AreSighted doc k q h l.fn.self → IsSightKept q k h
      → l.wall.0 ≡ wall doc q.process k → Settling doc k q h l.self;
  last : (q : Identity) (h : List Entry) → ClusterStands q h l.fn.self → (l.fn.self.evict_from ≡ Added → (key : Key) → has_touched l.fn.self key ≡ false) → is_synced q h ≡ true → AreBorne q h l.last;
  bounded : AreBounded l.last;
  moved : (n : ℕ) → has_moved l.self n ≡ has_moved l.fn.self n;
  counted : spent l.self l.steps ≤ spent l.fn.self l.fn.steps;
}
