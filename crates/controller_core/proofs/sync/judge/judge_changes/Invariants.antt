use Rattle.std.proofs.Common.{◌≡◌, ◌≤◌, ◌+◌, ◌-◌, ◌*◌, ◌||◌, ℕ, true, List, drop}
use Rattle.std.specs.BTreeSet.{contains}
use Rattle.std.specs.Ordering.{nat_cmp}
use Rattle.kube_objects.specs.declared.key.Key.{Key}
use Rattle.kube_objects.specs.declared.rules.EvictRule.TheVariants.{Added, Seen}
use Rattle.kube_objects.specs.Entry.{Entry, Identity}
use Rattle.kube_objects.specs.Feeds.{is_among}
use Rattle.kube_objects.specs.Seen.{is_synced}
use Rattle.kube_objects.specs.Stored.{node_key}
use Rattle.object_store.specs.Stands.{changed_in}
use Rattle.tick_laws.specs.Steps.{write_costs}
use Rattle.term_state.specs.ClusterStands.{has_moved}
use Rattle.term_state.specs.Sights.{IsRetained, has_touched, spent}
use Rattle.controller_core.specs.Left.{AreNoted, LeftBut}
use Rattle.controller_core.proofs.sync.judge.judge_changes.Given as goal

abbrev pub decreases-loop-place : goal.decreases-loop-place
decreases-loop-place g l = l.count - l.place

abbrev pub invariant-loop-place : goal.invariant-loop-place
invariant-loop-place g l = record {
  stands : (q : Identity) (g : List Entry) → LeftBut q g (drop l.position (changed_in l.store)) l.to_judge l.fn.cluster → is_synced q g ≡ true
      → LeftBut q g (drop l.place (changed_in l.store)) l.to_judge l.cluster;
  moved : (n : ℕ) → (is_among (drop l.place (changed_in l.store)) (node_key n) || has_moved l.cluster n) ≡ (is_among (drop l.position (changed_in l.store)) (node_key n) || has_moved l.fn.cluster n);
  retained : IsRetained l.fn.cluster l.cluster;
  none : (q : Identity) (g : List Entry) → LeftBut q g (drop l.position (changed_in l.store)) l.to_judge l.fn.cluster → is_synced q g ≡ true → l.fn.cluster.evict_from ≡ Added → (p : Key) → has_touched l.cluster p ≡ has_touched l.fn.cluster p;
  touched : (q : Identity) (g : List Entry) → LeftBut q g (drop l.position (changed_in l.store)) l.to_judge l.fn.cluster → is_synced q g ≡ true → l.fn.cluster.evict_from ≡ Seen
      → AreNoted q g (drop l.position (changed_in l.store)) (drop l.place (changed_in l.store)) l.to_judge l.fn.cluster l.cluster;
  counted : (q : Identity) (g : List Entry) → LeftBut q g (drop l.position (changed_in l.store)) l.to_judge l.fn.cluster → is_synced q g ≡ true
      → spent l.cluster l.steps + 2 * write_costs q (contains nat_cmp l.to_judge) g (drop l.place (changed_in l.store))
      ≤ spent l.fn.cluster l.fn.steps + 2 * write_costs q (contains nat_cmp l.to_judge) g (drop l.position (changed_in l.store));
}
