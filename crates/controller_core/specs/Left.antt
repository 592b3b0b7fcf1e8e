-- What a sync has still to judge.
use Rattle.std.specs.Prelude.{◌≡◌, ℕ, false, List}
use Rattle.std.specs.BTreeSet.{BTreeSet, contains}
use Rattle.std.specs.Ordering.{nat_cmp}
use Rattle.kube_objects.specs.declared.key.Key.{Key}
use Rattle.kube_objects.specs.Entry.{Entry, Identity}
use Rattle.kube_objects.specs.Feeds.{is_among}
use Rattle.kube_objects.specs.Stored.{node_key}
use Rattle.term_state.specs.declared.cluster.Cluster.{Cluster}
use Rattle.term_state.specs.ClusterStands.{ClusterBut}
use Rattle.term_state.specs.Sights.{has_touched}
use Rattle.term_state.specs.Taking.{is_open}

-- the nodes and pods of these keys, and the pods on those of these nodes that are among those to judge
abbrev pub LeftBut : Identity → List Entry → List Key → BTreeSet ℕ → Cluster → Type 0
LeftBut q g keys to_judge c = ClusterBut q g (λ n. is_among keys (node_key n)) (is_open q g keys (contains nat_cmp to_judge)) c

-- of the pods of some keys those that aren't of the rest have been touched, and none that was touched before isn't now
abbrev pub AreNoted : Identity → List Entry → (keys rest : List Key) → BTreeSet ℕ → (old new : Cluster) → Type 0
AreNoted q g keys rest to_judge old new =
    (p : Key) → has_touched new p ≡ false → is_open q g rest (contains nat_cmp to_judge) p ≡ false
    → (has_touched old p ≡ false) × (is_open q g keys (contains nat_cmp to_judge) p ≡ false)
