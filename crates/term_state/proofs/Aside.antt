-- A cluster through a change of the history, but for what the change is of.
use Rattle.std.proofs.Common.{◌≡◌, ◌∙◌, ℕ, ◌==◌, ◌||◌, Bool, true, false, cond, List, Option, Some, None, refl, sym, ap}
use Rattle.kube_base.specs.declared.numbers.Version.{Version}
use Rattle.kube_objects.specs.declared.key.Key.{Key}
use Rattle.kube_objects.specs.declared.node.Node.{Node}
use Rattle.kube_objects.specs.declared.object.Object.{Object}
use Rattle.kube_objects.specs.declared.object.Object.TheVariants as object
use Rattle.kube_objects.specs.Entry.{Entry, Identity}
use Rattle.kube_objects.specs.Keys.{key_eq}
use Rattle.kube_objects.specs.Newest.{has}
use Rattle.kube_objects.specs.Answers.{node_in}
use Rattle.kube_objects.specs.Seen.{is_pod, pod_in, seen_node, seen_pod}
use Rattle.kube_objects.specs.Stored.{node_key}
use Rattle.kube_objects.specs.Tainting.{before_tick, waits}
use Rattle.kube_objects.proofs.KeyOrder.{same_key}
use Rattle.history_laws.proofs.Plainly.{false_is}
use Rattle.tick_laws.specs.Changes.{IsChange, IsModeChange, Wrote, after_write, gone, is_that, noted}
use Rattle.tick_laws.specs.Judged.{seen_due, shown}
use Rattle.tick_laws.proofs.Frames.{node_shown, noted_pod, pod_shown, same_node, same_pod}
use Rattle.tick_laws.proofs.Tried.{gone_dirty, gone_due, mode_dues, mode_unseen, no_pod_never, noted_dirty, noted_due, noted_waits, pod_refused_dirty, pod_refused_others, refused_dues, refused_others, refused_waits, same_dirties, same_dues}
use Rattle.watch_cache.specs.declared.cache.Cache.{Cache}
use Rattle.watch_cache.specs.Kept.{is_on, of_kind}
use Rattle.watch_cache.specs.TaintChanges.{taints_in}
use Rattle.watch_cache.specs.Stands.{CacheStands, kept_in, position_in, stale_in, synced_in}
use Rattle.term_state.specs.declared.cluster.Cluster.{Cluster}
use Rattle.term_state.specs.ClusterStands.{ClusterBut, ClusterStands, HaveKinds, has_moved, no_node, no_pod}
use Rattle.term_state.specs.MidTick.{IsMoved}
use Rattle.term_state.proofs.SameTaints.{due_retained}
use Rattle.term_state.proofs.Widen.{first_none, second_none}

abbrev pub with_cache : Cluster → Cache → Cluster
with_cache c cache = record c { cache = cache }

-- how a call changed the cache
pub record IsCacheChange (wrote : Option Wrote) (refused : Option Key) (old new : Cache) : Type 0 where
  pub kept : (key : Key) → kept_in new key ≡ after_write wrote key (kept_in old key)
  pub stale : (key : Key) → stale_in new key ≡ (is_that refused key || stale_in old key)
  pub synced : synced_in new ≡ synced_in old
  pub position : position_in new ≡ position_in old

cache_changed : (q : Identity) (h g : List Entry) (wrote : Option Wrote) (refused : Option Key) (old new : Cache) → IsChange q h g wrote refused
    → IsCacheChange wrote refused old new → CacheStands q h old → CacheStands q g new
cache_changed q h g wrote refused old new d u s =
    record {
      objects = λ key. u.kept key ∙ ap (after_write wrote key) (s.objects key) ∙ sym (d.shown key);
      stale = λ key. u.stale key ∙ ap (λ b. is_that refused key || b) (s.stale key) ∙ sym (d.stale key);
      synced = u.synced ∙ s.synced ∙ sym d.synced;
      position = u.position ∙ s.position ∙ sym d.position;
    }

-- what was written is a node, or nothing is left
abbrev NodeOrNone : Option Wrote → Type 0
NodeOrNone None = Unit {0}
NodeOrNone (Some wrote) = (of_kind pod_in wrote.1 ≡ None) × (has (of_kind node_in wrote.1) ≡ has wrote.1)

pub kinds_changed : (q : Identity) (h g : List Entry) (wrote : Option Wrote) (refused : Option Key) → IsChange q h g wrote refused → NodeOrNone wrote → HaveKinds q h → HaveKinds q g
kinds_changed q h g wrote refused d is_node kinds = record {
  pods = λ key there. pod_by_write key wrote is_node (sym (ap has (sym (pod_shown q key g) ∙ ap (of_kind pod_in) (d.shown key))) ∙ there);
  nodes = λ n there. ap has (sym (node_shown q n g) ∙ ap (of_kind node_in) (d.shown (node_key n))) ∙ node_by_write n wrote is_node (sym (ap has (d.shown (node_key n))) ∙ there);
}
  where
    pod_before : (key : Key) → has (of_kind pod_in (shown q key h)) ≡ true → is_pod key.kind ≡ true
    pod_before key is = kinds.pods key (sym (ap has (pod_shown q key h)) ∙ is)

    pod_by_test : (key : Key) (x : Option (Version × Object)) (b : Bool) → of_kind pod_in x ≡ None → has (of_kind pod_in (cond b x (shown q key h))) ≡ true → is_pod key.kind ≡ true
    pod_by_test key x true none is = absurd (false_is (sym (ap has none) ∙ is))
    pod_by_test key x false none is = pod_before key is

    pod_by_write : (key : Key) (wrote : Option Wrote) → NodeOrNone wrote → has (of_kind pod_in (after_write wrote key (shown q key h))) ≡ true → is_pod key.kind ≡ true
    pod_by_write key None none is = pod_before key is
    pod_by_write key (Some wrote) none is = pod_by_test key wrote.1 (key_eq wrote.0 key) none.0 is

    node_before : (n : ℕ) → has (shown q (node_key n) h) ≡ true → has (of_kind node_in (shown q (node_key n) h)) ≡ true
    node_before n there = ap has (node_shown q n h) ∙ kinds.nodes n there

    node_by_test : (n : ℕ) (x : Option (Version × Object)) (b : Bool) → has (of_kind node_in x) ≡ has x → has (cond b x (shown q (node_key n) h)) ≡ true → has (of_kind node_in (cond b x (shown q (node_key n) h))) ≡ true
    node_by_test n x true same there = same ∙ there
    node_by_test n x false same there = node_before n there

    node_by_write : (n : ℕ) (wrote : Option Wrote) → NodeOrNone wrote → has (after_write wrote (node_key n) (shown q (node_key n) h)) ≡ true → has (of_kind node_in (after_write wrote (node_key n) (shown q (node_key n) h))) ≡ true
    node_by_write n None none there = node_before n there
    node_by_write n (Some wrote) none there = node_by_test n wrote.1 (key_eq wrote.0 (node_key n)) none.1 there

module _ (q : Identity) (h g : List Entry) (name : ℕ) (version : Version) (node : Node) (d : IsChange q h g (noted name version node) None) where
  -- a node was written, and isn't judged yet
  pub noted_aside : (c : Cluster) (cache : Cache) → ClusterStands q h c → IsCacheChange (noted name version node) None c.cache cache
      → ClusterBut q g (λ n. name == n) (λ p. is_on name (seen_pod q p g)) (with_cache c cache)
  noted_aside c cache s u =
      record {
        cache = cache_changed q h g (noted name version node) None c.cache cache d u s.cache;
        mode = s.mode ∙ sym d.mode;
        unclean = λ n apart. s.unclean n refl ∙ sym (noted_dirty q h g name version node d n apart);
        dues = λ key off added. s.dues key refl added ∙ by_kind key (is_pod key.kind) refl off;
        kinds = kinds_changed q h g (noted name version node) None d (refl, refl) s.kinds;
      }
    where
      by_kind : (key : Key) (b : Bool) → is_pod key.kind ≡ b → is_on name (seen_pod q key g) ≡ false → seen_due q key h ≡ seen_due q key g
      by_kind key true kind off = sym (noted_due q h g name version node d key (ap (is_on name) (sym (noted_pod q h g name version node None d key kind)) ∙ off))
      by_kind key false kind off = no_pod_never q key h kind ∙ sym (no_pod_never q key g kind)

  -- the same where the node's taints are as they were
  pub noted_alone : (c : Cluster) (cache : Cache) → ClusterStands q h c → IsCacheChange (noted name version node) None c.cache cache → taints_in (kept_in c.cache (node_key name)) ≡ node.taints
      → ClusterBut q g (λ n. name == n) no_pod (with_cache c cache)
  noted_alone c cache s u same =
      record {
        cache = cache_changed q h g (noted name version node) None c.cache cache d u s.cache;
        mode = s.mode ∙ sym d.mode;
        unclean = λ n apart. s.unclean n refl ∙ sym (noted_dirty q h g name version node d n apart);
        dues = λ key out added. s.dues key refl added ∙ by_kind key (is_pod key.kind) refl;
        kinds = kinds_changed q h g (noted name version node) None d (refl, refl) s.kinds;
      }
    where
      by_test : (n : ℕ) (b : Bool) → key_eq (node_key name) (node_key n) ≡ b → taints_in (cond b (Some (version, object.Node node)) (shown q (node_key n) h)) ≡ taints_in (shown q (node_key n) h)
      by_test n true is = sym same ∙ ap taints_in (s.cache.objects (node_key name) ∙ ap (λ k. shown q k h) (same_key (node_key name) (node_key n) is))
      by_test n false is = refl

      by_kind : (key : Key) (b : Bool) → is_pod key.kind ≡ b → seen_due q key h ≡ seen_due q key g
      by_kind key true kind =
          sym (due_retained q key h g (noted_pod q h g name version node None d key kind) (d.stale key)
          (λ n on. ap taints_in (d.shown (node_key n)) ∙ by_test n (key_eq (node_key name) (node_key n)) refl))
      by_kind key false kind = no_pod_never q key h kind ∙ sym (no_pod_never q key g kind)

  pub noted_moved : (k : ℕ) (old new : Cluster) → before_tick q k g ≡ before_tick q k h → ((n : ℕ) → has_moved new n ≡ ((name == n) || has_moved old n)) → IsMoved q k h old → IsMoved q k g new
  noted_moved k old new beneath more s n out place =
      let both = sym (more n) ∙ out in
      noted_waits q h g name version node d place n (first_none (name == n) (has_moved old n) both)
      ∙ s n (second_none (name == n) (has_moved old n) both) place
      ∙ ap (waits q place n) (sym beneath)

-- nothing was written
module _ (q : Identity) (h g : List Entry) (refused : Option Key) (d : IsChange q h g None refused) where
  pub refused_moved : (k : ℕ) (old new : Cluster) → before_tick q k g ≡ before_tick q k h → ((n : ℕ) → has_moved new n ≡ has_moved old n) → IsMoved q k h old → IsMoved q k g new
  refused_moved k old new beneath same s n out place = refused_waits q h g refused d place n ∙ s n (sym (same n) ∙ out) place ∙ ap (waits q place n) (sym beneath)

-- nothing changed
pub same_aside : (q : Identity) (h g : List Entry) (nodes : ℕ → Bool) (pods : Key → Bool) (c : Cluster) → IsChange q h g None None → ClusterBut q h nodes pods c → ClusterBut q g nodes pods c
same_aside q h g nodes pods c d s =
    record {
      cache = cache_changed q h g None None c.cache c.cache d (record { kept = λ key. refl; stale = λ key. refl; synced = refl; position = refl }) s.cache;
      mode = s.mode ∙ sym d.mode;
      unclean = λ n out. s.unclean n out ∙ sym (same_dirties q h g d n);
      dues = λ key out added. s.dues key out added ∙ sym (same_dues q h g d key);
      kinds = kinds_changed q h g None None d tt s.kinds;
    }

-- a node became stale
pub refused_aside : (q : Identity) (h g : List Entry) (name : ℕ) (c : Cluster) (cache : Cache) → IsChange q h g None (Some (node_key name)) → ClusterStands q h c
    → IsCacheChange None (Some (node_key name)) c.cache cache → ClusterBut q g (λ n. name == n) no_pod (with_cache c cache)
refused_aside q h g name c cache d s u =
    record {
      cache = cache_changed q h g None (Some (node_key name)) c.cache cache d u s.cache;
      mode = s.mode ∙ sym d.mode;
      unclean = λ n apart. s.unclean n refl ∙ sym (refused_others q h g name d n apart);
      dues = λ key out added. s.dues key refl added ∙ sym (refused_dues q h g name d key);
      kinds = kinds_changed q h g None (Some (node_key name)) d tt s.kinds;
    }

-- a pod went
pub gone_aside : (q : Identity) (h g : List Entry) (pod : Key) (pods : Key → Bool) (c : Cluster) (cache : Cache) → IsChange q h g (gone pod) None → is_pod pod.kind ≡ true → ClusterBut q h no_node pods c
    → IsCacheChange (gone pod) None c.cache cache → ClusterBut q g no_node (λ p. pods p || key_eq pod p) (with_cache c cache)
gone_aside q h g pod pods c cache d kind s u =
    record {
      cache = cache_changed q h g (gone pod) None c.cache cache d u s.cache;
      mode = s.mode ∙ sym d.mode;
      unclean = λ n out. s.unclean n out ∙ sym (gone_dirty q h g pod d kind n);
      dues = λ key out added. s.dues key (first_none (pods key) (key_eq pod key) out) added ∙ sym (gone_due q h g pod d kind key (second_none (pods key) (key_eq pod key) out));
      kinds = kinds_changed q h g (gone pod) None d (refl, refl) s.kinds;
    }

-- a pod became stale
pub stale_aside : (q : Identity) (h g : List Entry) (pod : Key) (pods : Key → Bool) (c : Cluster) (cache : Cache) → IsChange q h g None (Some pod) → is_pod pod.kind ≡ true → ClusterBut q h no_node pods c
    → IsCacheChange None (Some pod) c.cache cache → ClusterBut q g no_node (λ p. pods p || key_eq pod p) (with_cache c cache)
stale_aside q h g pod pods c cache d kind s u =
    record {
      cache = cache_changed q h g None (Some pod) c.cache cache d u s.cache;
      mode = s.mode ∙ sym d.mode;
      unclean = λ n out. s.unclean n out ∙ sym (pod_refused_dirty q h g pod d kind n);
      dues = λ key out added. s.dues key (first_none (pods key) (key_eq pod key) out) added ∙ sym (pod_refused_others q h g pod d key (second_none (pods key) (key_eq pod key) out));
      kinds = kinds_changed q h g None (Some pod) d tt s.kinds;
    }

none_is : {A : Type 0} (o : Option A) → has o ≡ false → o ≡ None
none_is None is = refl
none_is (Some x) is = absurd (false_is (sym is))

unseen_before : (q : Identity) (h g : List Entry) (on : Bool) → IsModeChange q h g on → (n : ℕ) → has (seen_node q n g) ≡ false → seen_node q n h ≡ None
unseen_before q h g on d n out = sym (same_node q n h g (d.shown (node_key n))) ∙ none_is (seen_node q n g) out

-- the mode changed, and no node is judged yet
pub mode_aside : (q : Identity) (h g : List Entry) (on : Bool) (c : Cluster) → IsModeChange q h g on → ClusterStands q h c
    → ClusterBut q g (λ n. has (seen_node q n g)) no_pod (record c { mode = on })
mode_aside q h g on c d s =
    record {
      cache = record {
        objects = λ key. s.cache.objects key ∙ sym (d.shown key);
        stale = λ key. s.cache.stale key ∙ sym (d.stale key);
        synced = s.cache.synced ∙ sym d.synced;
        position = s.cache.position ∙ sym d.position;
      };
      mode = sym d.mode;
      unclean = λ n out. s.unclean n refl ∙ sym (mode_unseen q h g on (record { region = 0; zone = 0 }) n d (unseen_before q h g on d n out)).0;
      dues = λ key out added. s.dues key refl added ∙ sym (mode_dues q h g on d key);
      kinds = record {
        pods = λ key there. s.kinds.pods key (sym (ap has (same_pod q key h g (d.shown key))) ∙ there);
        nodes = λ n there. ap has (same_node q n h g (d.shown (node_key n))) ∙ s.kinds.nodes n (sym (ap has (d.shown (node_key n))) ∙ there);
      };
    }

pub mode_moved : (q : Identity) (h g : List Entry) (on : Bool) → IsModeChange q h g on → (k : ℕ) (old new : Cluster) → before_tick q k g ≡ before_tick q k h
    → ((n : ℕ) → has_moved new n ≡ (has (seen_node q n g) || has_moved old n)) → IsMoved q k h old → IsMoved q k g new
mode_moved q h g on d k old new beneath more s n out place =
    let both = sym (more n) ∙ out in
    (mode_unseen q h g on place n d (unseen_before q h g on d n (first_none (has (seen_node q n g)) (has_moved old n) both))).1
    ∙ s n (second_none (has (seen_node q n g)) (has_moved old n) both) place
    ∙ ap (waits q place n) (sym beneath)
