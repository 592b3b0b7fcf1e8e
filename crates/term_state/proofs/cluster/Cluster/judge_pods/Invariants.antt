use Rattle.std.proofs.Common.{◌≡◌, ◌≤◌, ◌+◌, ◌&&◌, ◌||◌, ℕ, Bool, true, List, length}
use Rattle.kube_objects.specs.declared.key.Key.{Key}
use Rattle.kube_objects.specs.Entry.{Entry, Identity}
use Rattle.kube_objects.specs.Feeds.{is_among}
use Rattle.kube_objects.specs.Seen.{is_synced}
use Rattle.term_state.specs.ClusterStands.{ClusterBut, has_moved}
use Rattle.term_state.specs.Lasts.{AreDue}
use Rattle.term_state.specs.Sights.{IsRetained, has_touched, is_by_sight, spent}
use Rattle.term_state.proofs.Judging.{left_pods}
use Rattle.term_state.proofs.cluster.Cluster.judge_pods.Given as goal

abbrev pub decreases-loop-key : goal.decreases-loop-key
decreases-loop-key g l = length l.rest

abbrev pub invariant-loop-key : goal.invariant-loop-key
invariant-loop-key g l = record {
  stands : (q : Identity) (h : List Entry) (nodes : ℕ → Bool) (pods : Key → Bool) → ClusterBut q h nodes pods l.fn.self → is_synced q h ≡ true
      → ClusterBut q h nodes (left_pods l.keys l.rest pods) l.self;
  last : (q : Identity) (h : List Entry) (nodes : ℕ → Bool) (pods : Key → Bool) → ClusterBut q h nodes pods l.fn.self → is_synced q h ≡ true → AreDue q h l.last;
  moved : (n : ℕ) → has_moved l.self n ≡ has_moved l.fn.self n;
  retained : IsRetained l.fn.self l.self;
  touched : (p : Key) → ((is_by_sight l.fn.self.evict_from && is_among l.rest p) || has_touched l.self p) ≡ ((is_by_sight l.fn.self.evict_from && is_among l.keys p) || has_touched l.fn.self p);
  counted : spent l.self l.steps + length l.rest ≤ spent l.fn.self l.fn.steps + length l.keys;
}
