-- What is judged of a node, of pods, and of a term that begins.
use Rattle.std.proofs.Common.{◌≡◌, ◌∙◌, ℕ, ◌==◌, ◌&&◌, ◌||◌, not, Bool, true, false, cond, List, [], ◌∷◌, Option, refl, sym, ap, subst}
use Rattle.kube_base.specs.declared.numbers.Version.{Version}
use Rattle.kube_objects.specs.declared.key.Key.{Key}
use Rattle.kube_objects.specs.declared.node.Node.{Node}
use Rattle.kube_objects.specs.declared.pod.Due.{Due}
use Rattle.kube_objects.specs.declared.rules.EvictRule.TheVariants.{Added, Seen}
use Rattle.kube_objects.specs.declared.pod.Pod.{Pod}
use Rattle.kube_objects.specs.Entry.{Entry, Identity}
use Rattle.kube_objects.specs.Feeds.{is_among}
use Rattle.kube_objects.specs.Keys.{key_eq}
use Rattle.kube_objects.specs.Modes.{mode}
use Rattle.kube_objects.specs.Seen.{is_pod, is_stale, seen_node, seen_pod}
use Rattle.kube_objects.specs.Stored.{node_key}
use Rattle.kube_objects.proofs.KeyOrder.{same_key}
use Rattle.history_laws.proofs.Plainly.{false_is}
use Rattle.evict_queue.specs.Queue.{due_in}
use Rattle.evict_queue.specs.declared.queue.EvictQueue.{EvictQueue}
use Rattle.evict_queue.specs.declared.rows.Rows.{Rows}
use Rattle.tick_laws.specs.Judged.{dirty_as, due_as, is_dirty, seen_due}
use Rattle.watch_cache.specs.Listed.{is_named}
use Rattle.term_state.specs.declared.cluster.Cluster.{Cluster}
use Rattle.term_state.specs.ClusterStands.{ClusterBut, but_node, but_pod, but_pods, no_pod}
use Rattle.term_state.proofs.Widen.{widen}

-- whether a node that isn't stale is to be cleaned
pub judged_dirty : (q : Identity) (name : ℕ) (h : List Entry) (on : Bool) (o : Option (Version × Node)) → is_stale q (node_key name) h ≡ false → on ≡ mode q h → seen_node q name h ≡ o
    → is_dirty q name h ≡ dirty_as false on o
judged_dirty q name h on o fresh is sees =
    ap (λ b. dirty_as b (mode q h) (seen_node q name h)) fresh ∙ ap (λ b. dirty_as false b (seen_node q name h)) (sym is) ∙ ap (dirty_as false on) sees

-- when a pod that isn't stale is due
pub judged_due : (q : Identity) (key : Key) (h : List Entry) (o : Option (Version × Pod)) → is_pod key.kind ≡ true → is_stale q key h ≡ false → seen_pod q key h ≡ o
    → seen_due q key h ≡ due_as q false o h
judged_due q key h o kind fresh sees =
    ap (λ b. due_as q (not b || is_stale q key h) (seen_pod q key h) h) kind
    ∙ ap (λ b. due_as q b (seen_pod q key h) h) fresh
    ∙ ap (λ o. due_as q false o h) sees

abbrev pub with_dues : Cluster → EvictQueue → Cluster
with_dues c dues = record c { dues = dues }

-- the rows are no part of it
abbrev pub with_rows : Cluster → Rows → Cluster
with_rows c rows = record c { rows = rows }

pub rows_aside : (q : Identity) (h : List Entry) (nodes : ℕ → Bool) (pods : Key → Bool) (c : Cluster) (rows : Rows) → ClusterBut q h nodes pods c → ClusterBut q h nodes pods (with_rows c rows)
rows_aside q h nodes pods c rows s = record { cache = s.cache; mode = s.mode; unclean = s.unclean; dues = s.dues; kinds = s.kinds }

-- a pod's due was set
pub due_set : (q : Identity) (h : List Entry) (nodes : ℕ → Bool) (pods : Key → Bool) (c : Cluster) (dues : EvictQueue) (pod : Key) (due : Due) → ClusterBut q h nodes pods c → (c.evict_from ≡ Added → due ≡ seen_due q pod h)
    → ((key : Key) → due_in dues key ≡ cond (key_eq pod key) due (due_in c.dues key)) → ClusterBut q h nodes (but_pod pod pods) (with_dues c dues)
due_set q h nodes pods c dues pod due s is set =
    record { cache = s.cache; mode = s.mode; unclean = s.unclean; dues = λ key out added. set key ∙ by_test key added (key_eq pod key) refl out; kinds = s.kinds }
  where
    open_still : (b : Bool) → (b && true) ≡ false → b ≡ false
    open_still true is = absurd (false_is (sym is))
    open_still false is = refl

    by_test : (key : Key) → c.evict_from ≡ Added → (b : Bool) → key_eq pod key ≡ b → (pods key && not b) ≡ false → cond b due (due_in c.dues key) ≡ seen_due q key h
    by_test key added true same out = is added ∙ ap (λ k. seen_due q k h) (same_key pod key same)
    by_test key added false apart out = s.dues key (open_still (pods key) out) added

-- where dues count from what is seen, it stands but for any pods
pub seen_but : (q : Identity) (h : List Entry) (nodes : ℕ → Bool) (pods more : Key → Bool) (c : Cluster) → c.evict_from ≡ Seen → ClusterBut q h nodes pods c → ClusterBut q h nodes more c
seen_but q h nodes pods more c is s = record { cache = s.cache; mode = s.mode; unclean = s.unclean; dues = λ key out added. absurd (differ (sym is ∙ added)); kinds = s.kinds }
  where
    differ : Seen ≡ Added → ⊥
    differ is = cc

-- ---- the pods of a list, the rest of which is still to be judged

abbrev pub left_pods : List Key → List Key → (Key → Bool) → Key → Bool
left_pods keys rest pods key = pods key && (not (is_among keys key) || is_among rest key)

pub begin_pods : (q : Identity) (h : List Entry) (nodes : ℕ → Bool) (pods : Key → Bool) (keys : List Key) (c : Cluster) → ClusterBut q h nodes pods c → ClusterBut q h nodes (left_pods keys keys pods) c
begin_pods q h nodes pods keys c s = widen q h nodes nodes pods (left_pods keys keys pods) c (λ n is. is) (λ key. by_tests (pods key) (is_among keys key)) s
  where
    by_tests : (b there : Bool) → (b && (not there || there)) ≡ false → b ≡ false
    by_tests false there is = refl
    by_tests true true is = is
    by_tests true false is = is

pub next_pods : (q : Identity) (h : List Entry) (nodes : ℕ → Bool) (pods : Key → Bool) (keys all rest : List Key) (key : Key) (c : Cluster) → all ≡ key ∷ rest
    → ClusterBut q h nodes (but_pod key (left_pods keys all pods)) c → ClusterBut q h nodes (left_pods keys rest pods) c
next_pods q h nodes pods keys all rest key c is s =
    widen q h nodes nodes (but_pod key (left_pods keys (key ∷ rest) pods)) (left_pods keys rest pods) c (λ n is. is) (λ k. by_tests (pods k) (is_among keys k) (key_eq key k) (is_among rest k))
    (subst (λ xs. ClusterBut q h nodes (but_pod key (left_pods keys xs pods)) c) is s)
  where
    by_tests : (b there here later : Bool) → (b && (not there || later)) ≡ false → ((b && (not there || (here || later))) && not here) ≡ false
    by_tests false there here later is = refl
    by_tests true true true later is = refl
    by_tests true true false true is = is
    by_tests true true false false is = refl
    by_tests true false here later is = absurd (false_is (sym is))

pub end_pods : (q : Identity) (h : List Entry) (nodes : ℕ → Bool) (pods : Key → Bool) (keys rest : List Key) (c : Cluster) → rest ≡ []
    → ClusterBut q h nodes (left_pods keys rest pods) c → ClusterBut q h nodes (but_pods keys pods) c
end_pods q h nodes pods keys rest c is s =
    widen q h nodes nodes (left_pods keys [] pods) (but_pods keys pods) c (λ n is. is) (λ key. by_tests (pods key) (is_among keys key))
    (subst (λ xs. ClusterBut q h nodes (left_pods keys xs pods) c) is s)
  where
    by_tests : (b there : Bool) → (b && not there) ≡ false → (b && (not there || false)) ≡ false
    by_tests false there is = refl
    by_tests true true is = refl
    by_tests true false is = is

-- ---- the nodes of a list

pub next_nodes : (q : Identity) (h : List Entry) (all rest : List ℕ) (name : ℕ) (c : Cluster) → all ≡ name ∷ rest
    → ClusterBut q h (but_node name (is_named all)) no_pod c → ClusterBut q h (is_named rest) no_pod c
next_nodes q h all rest name c is s =
    widen q h (but_node name (is_named (name ∷ rest))) (is_named rest) no_pod no_pod c (λ n. by_tests (name == n) (is_named rest n)) (λ key is. is)
    (subst (λ xs. ClusterBut q h (but_node name (is_named xs)) no_pod c) is s)
  where
    by_tests : (here later : Bool) → later ≡ false → ((here || later) && not here) ≡ false
    by_tests true later is = refl
    by_tests false true is = is
    by_tests false false is = refl

pub moved_nodes : (here later before : Bool) → (later || (here || before)) ≡ ((here || later) || before)
moved_nodes true true before = refl
moved_nodes true false before = refl
moved_nodes false later before = refl
