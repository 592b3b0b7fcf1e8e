-- A cluster stands for a history, but for some nodes and pods.
use Rattle.std.specs.Prelude.{◌≡◌, ℕ, ◌==◌, ◌&&◌, not, Bool, true, false, List}
use Rattle.std.specs.BTreeSet.{contains}
use Rattle.std.specs.Ordering.{nat_cmp}
use Rattle.kube_objects.specs.declared.key.Key.{Key}
use Rattle.kube_objects.specs.declared.rules.EvictRule.TheVariants.{Added}
use Rattle.kube_objects.specs.Entry.{Entry, Identity}
use Rattle.kube_objects.specs.Feeds.{is_among}
use Rattle.kube_objects.specs.Keys.{key_eq}
use Rattle.kube_objects.specs.Modes.{mode}
use Rattle.kube_objects.specs.Newest.{has}
use Rattle.kube_objects.specs.Seen.{is_pod, seen_node, seen_pod}
use Rattle.kube_objects.specs.Stored.{node_key}
use Rattle.evict_queue.specs.Queue.{due_in}
use Rattle.watch_cache.specs.Stands.{CacheStands}
use Rattle.tick_laws.specs.Judged.{is_dirty, seen_due, shown}
use Rattle.term_state.specs.declared.cluster.Cluster.{Cluster}

-- whether a cluster has a node among those to untaint or swap
abbrev pub is_unclean_in : Cluster → ℕ → Bool
is_unclean_in c n = contains nat_cmp c.unclean n

-- whether a cluster has a node among those that may begin or end to wait
abbrev pub has_moved : Cluster → ℕ → Bool
has_moved c n = contains nat_cmp c.moved n

-- pods are seen under keys of pods alone, and nothing but nodes under those of nodes
pub record HaveKinds (q : Identity) (h : List Entry) : Type 0 where
  pub pods : (key : Key) → has (seen_pod q key h) ≡ true → is_pod key.kind ≡ true
  pub nodes : (n : ℕ) → has (shown q (node_key n) h) ≡ true → has (seen_node q n h) ≡ true

-- one clause for each field but the rows, and that what is seen is of its key's kind. The dues are these where they count from the stored
-- taints
pub record ClusterBut (q : Identity) (h : List Entry) (nodes : ℕ → Bool) (pods : Key → Bool) (c : Cluster) : Type 0 where
  pub cache : CacheStands q h c.cache
  pub mode : c.mode ≡ mode q h
  pub unclean : (n : ℕ) → nodes n ≡ false → is_unclean_in c n ≡ is_dirty q n h
  pub dues : (key : Key) → pods key ≡ false → c.evict_from ≡ Added → due_in c.dues key ≡ seen_due q key h
  pub kinds : HaveKinds q h

abbrev pub no_node : ℕ → Bool
no_node n = false

abbrev pub no_pod : Key → Bool
no_pod key = false

abbrev pub ClusterStands : Identity → List Entry → Cluster → Type 0
ClusterStands q h c = ClusterBut q h no_node no_pod c

-- a test without one name, and without one key
abbrev pub but_node : ℕ → (ℕ → Bool) → ℕ → Bool
but_node name test n = test n && not (name == n)

abbrev pub but_pod : Key → (Key → Bool) → Key → Bool
but_pod pod test key = test key && not (key_eq pod key)

-- and without some keys
abbrev pub but_pods : List Key → (Key → Bool) → Key → Bool
but_pods keys test key = test key && not (is_among keys key)
