use Rattle.std.proofs.Common.{◌≡◌, ◌⊎◌, ◌&&◌, ◌≤◌, ◌-◌, ℕ, true, false, take}
use Rattle.std.specs.BTreeSet.{contains}
use Rattle.std.specs.Ordering.{nat_cmp}
use Rattle.kube_objects.specs.Feeds.{is_among}
use Rattle.kube_objects.specs.Stored.{node_key}
use Rattle.watch_cache.specs.TaintChanges.{IsSettled, appears}
use Rattle.watch_cache.proofs.cache.Cache.nodes_to_judge.Given as goal

abbrev pub invariant-loop-place : goal.invariant-loop-place
invariant-loop-place g l =
    record {
      settled : (n : ℕ) → is_among (take l.place (g.C.Changed.keys l.changed)) (node_key n) ≡ true → contains nat_cmp l.names n ≡ false
          → IsSettled l.self n (g.C.Changed.shown l.changed (node_key n));
      unsettled : (n : ℕ) → contains nat_cmp l.names n ≡ true
          → (is_among (take l.place (g.C.Changed.keys l.changed)) (node_key n) ≡ true)
          × ((IsSettled l.self n (g.C.Changed.shown l.changed (node_key n)) → ⊥) ⊎ ((l.new && appears l.self n (g.C.Changed.shown l.changed (node_key n))) ≡ true));
      appeared : l.new ≡ true → (n : ℕ) → is_among (take l.place (g.C.Changed.keys l.changed)) (node_key n) ≡ true → contains nat_cmp l.names n ≡ false
          → appears l.self n (g.C.Changed.shown l.changed (node_key n)) ≡ false;
      within : l.place ≤ l.count;
    }

abbrev pub decreases-loop-place : goal.decreases-loop-place
decreases-loop-place g l = l.count - l.place
