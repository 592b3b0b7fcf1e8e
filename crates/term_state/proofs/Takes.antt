-- A sync takes over what was written.
use Rattle.std.proofs.Common.{◌≡◌, ◌∙◌, ◌⊎◌, inl, inr, ℕ, ◌&&◌, ◌||◌, not, Bool, true, false, cond, List, [], ◌∷◌, Option, Some, None, refl, sym, ap, subst, drop}
use Rattle.std.proofs.lemmas.Bool.{eqb-true}
use Rattle.kube_base.specs.declared.numbers.Version.{Version}
use Rattle.kube_objects.specs.declared.key.Key.{Key}
use Rattle.kube_objects.specs.declared.object.Object.{Object}
use Rattle.kube_objects.specs.declared.object.Object.TheVariants as object
use Rattle.kube_objects.specs.declared.pod.Pod.{Pod}
use Rattle.kube_objects.specs.declared.rules.EvictRule.{EvictRule}
use Rattle.kube_objects.specs.declared.rules.EvictRule.TheVariants as evictions
use Rattle.kube_objects.specs.Entry.{Entry, Identity, Sync}
use Rattle.kube_objects.specs.Feeds.{is_among}
use Rattle.kube_objects.specs.Kinds.{IsOfKind}
use Rattle.kube_objects.specs.Newest.{has}
use Rattle.kube_objects.specs.Answers.{node_in}
use Rattle.kube_objects.specs.Seen.{is_pod, is_stale, pod_in, seen_node, seen_pod}
use Rattle.kube_objects.specs.Stored.{Held, node_key, stored, write_of, writes}
use Rattle.kube_objects.specs.Tick.{add}
use Rattle.history_laws.proofs.Plainly.{false_is}
use Rattle.object_store.specs.FeedLaws.{kinds_in}
use Rattle.object_store.specs.Stands.{StoreStands, shown_in}
use Rattle.object_store.specs.StoreAnswers.{changed_keys, kept_of}
use Rattle.object_store.specs.declared.store.Store.{Store}
use Rattle.tick_laws.specs.Judged.{seen_due, shown}
use Rattle.tick_laws.specs.Since.{AreReached, is_node_among, keys_since}
use Rattle.tick_laws.specs.ToJudge.{is_back, is_to_judge}
use Rattle.tick_laws.proofs.Frames.{node_shown, pod_shown}
use Rattle.tick_laws.proofs.Syncing.{keys_since_is, sync_dirty, sync_due, sync_keeps, sync_pod, sync_position, sync_shows, sync_stale, sync_synced}
use Rattle.tick_laws.proofs.ToJudge.{appears_anew, unsettled}
use Rattle.tick_laws.proofs.Tried.{no_pod_never}
use Rattle.watch_cache.specs.declared.cache.Cache.{Cache}
use Rattle.watch_cache.specs.Kept.{is_node, is_node_in, is_on, kept, of_kind}
use Rattle.watch_cache.specs.TaintChanges.{IsSettled, appears, taints_in}
use Rattle.watch_cache.specs.Stands.{CacheStands, and_key, kept_in, position_in, stale_in, synced_in, synced_writes, written_keys}
use Rattle.term_state.specs.declared.cluster.Cluster.{Cluster}
use Rattle.term_state.specs.ClusterStands.{ClusterBut, ClusterStands, HaveKinds}
use Rattle.term_state.specs.Sights.{IsAlike, is_by_sight, is_undue}
use Rattle.term_state.specs.Taking.{is_on_open, is_open}
use Rattle.term_state.proofs.Aside.{with_cache}
use Rattle.term_state.proofs.SameTaints.{due_retained}
use Rattle.term_state.proofs.Sighted.{KeepsTaints, alike_as, alike_no_pod, taints_kept}
use Rattle.term_state.proofs.Widen.{first_none, second_none}

-- a node that the cache finds to judge: it isn't settled, or appears
pub to_judge : (q : Identity) (name : ℕ) (h g : List Entry) (cache : Cache) (now : Option (Version × Object)) → CacheStands q h cache → now ≡ shown q (node_key name) g
    → (rule : EvictRule) (new : Bool) → new ≡ is_by_sight rule → (IsSettled cache name now → ⊥) ⊎ ((new && appears cache name now) ≡ true) → (is_to_judge q h g name ≡ true) ⊎ (is_back rule q h g name ≡ true)
to_judge q name h g cache now s is rule new by (inl left) = inl (unsettled q name h g cache now s is left)
to_judge q name h g cache now s is rule new by (inr both) = inr (by_rule rule by)
  where
    by_rule : (rule : EvictRule) → new ≡ is_by_sight rule → is_back rule q h g name ≡ true
    by_rule evictions.Added by = absurd (false_is (sym (ap (λ b. b && appears cache name now) by) ∙ both))
    by_rule evictions.Seen by = sym (appears_anew q name h g cache now s is) ∙ sym (ap (λ b. b && appears cache name now) by) ∙ both

-- the store's words and the cache's say the same
pub kept_same : (o : Option Held) → kept_of o ≡ kept o
kept_same None = refl
kept_same (Some x) = refl

pub keys_same : (h : List Entry) → changed_keys h ≡ written_keys h
keys_same [] = refl
keys_same (e ∷ h) = ap (and_key (write_of e.fact)) (keys_same h)

-- what is stored from a position on was written since the last sync
pub since_is : (q : Identity) (h : List Entry) (position : ℕ) → position ≡ synced_writes q h → drop position (changed_keys h) ≡ keys_since q h
since_is q h position is = ap (λ n. drop n (changed_keys h)) is ∙ ap (drop (synced_writes q h)) (keys_same h) ∙ sym (keys_since_is q h)

module _ (q : Identity) (h : List Entry) (kinds : HaveKinds q h) (r : AreReached q h) where
  -- a key that nobody wrote, and whose pod's node nobody wrote, isn't stale
  unreached : (key : Key) → is_among (keys_since q h) key ≡ false → is_node_among (keys_since q h) (seen_pod q key h) ≡ false → is_stale q key h ≡ false
  unreached key out on = by_test (is_stale q key h) refl
    where
      none : (is_among (keys_since q h) key || is_node_among (keys_since q h) (seen_pod q key h)) ≡ false
      none = ap (λ b. b || is_node_among (keys_since q h) (seen_pod q key h)) out ∙ on

      by_test : (b : Bool) → is_stale q key h ≡ b → b ≡ false
      by_test true stale = absurd (false_is (sym none ∙ r key stale))
      by_test false fresh = refl

  -- no pod is seen under a node's key
  no_pod_at : (keys : List Key) (name : ℕ) → is_node_among keys (seen_pod q (node_key name) h) ≡ false
  no_pod_at keys name = by_pod (seen_pod q (node_key name) h) (kinds.pods (node_key name))
    where
      by_pod : (o : Option (Version × Pod)) → (has o ≡ true → false ≡ true) → is_node_among keys o ≡ false
      by_pod None none = refl
      by_pod (Some x) none = absurd (false_is (none refl))

  pub fresh_node : (name : ℕ) → is_among (keys_since q h) (node_key name) ≡ false → is_stale q (node_key name) h ≡ false
  fresh_node name out = unreached (node_key name) out (no_pod_at (keys_since q h) name)

  pub fresh_pod : (key : Key) → is_among (keys_since q h) key ≡ false → is_node_among (keys_since q h) (seen_pod q key h) ≡ false → is_stale q key h ≡ false
  fresh_pod key out on = unreached key out on

-- a pod that is stored stands under a pod's key
stored_kind : (h : List Entry) (store : Store) (key : Key) (o : Option Held) → shown_in store key ≡ kept_of o → has (of_kind pod_in (kept o)) ≡ true → is_pod key.kind ≡ true
stored_kind h store key None is there = absurd (false_is there)
stored_kind h store key (Some x) is there = by_object x.object (λ other at. kinds_in store key x.version other (is ∙ ap (λ o. Some (x.version, o)) at)) there
  where
    by_object : (y : Object) → ((other : Object) → y ≡ other → IsOfKind key other) → has (of_kind pod_in (Some (x.version, y))) ≡ true → is_pod key.kind ≡ true
    by_object (object.Node node) kind there = absurd (false_is there)
    by_object (object.Lease lease) kind there = absurd (false_is there)
    by_object (object.Pod pod) kind there = ap is_pod (kind (object.Pod pod) refl)

-- and what is stored under a node's key is a node
stored_node : (h : List Entry) (store : Store) (n : ℕ) (o : Option Held) → shown_in store (node_key n) ≡ kept_of o → has (kept o) ≡ true → has (of_kind node_in (kept o)) ≡ true
stored_node h store n None is there = absurd (false_is there)
stored_node h store n (Some x) is there = by_object x.object (λ other at. kinds_in store (node_key n) x.version other (is ∙ ap (λ o. Some (x.version, o)) at))
  where
    by_object : (y : Object) → ((other : Object) → y ≡ other → IsOfKind (node_key n) other) → has (of_kind node_in (Some (x.version, y))) ≡ true
    by_object (object.Node node) kind = refl
    by_object (object.Lease lease) kind = let never = kind (object.Lease lease) refl in absurd (cc)
    by_object (object.Pod pod) kind = absurd (false_is (ap is_pod (kind (object.Pod pod) refl)))

is_node_has : (x : Option (Version × Object)) → has (of_kind node_in x) ≡ is_node_in x
is_node_has None = refl
is_node_has (Some x) = by_object x.1
  where
    by_object : (y : Object) → has (of_kind node_in (Some (x.0, y))) ≡ is_node y
    by_object (object.Node node) = refl
    by_object (object.Lease lease) = refl
    by_object (object.Pod pod) = refl

module _ (q : Identity) (k : ℕ) (h : List Entry) (c : Cluster) (cache : Cache) (store : Store) (s : ClusterStands q h c) (st : StoreStands h store) (r : AreReached q h) where
  taken_kinds : HaveKinds q (add k q Sync h)
  taken_kinds = record {
    pods = λ key there. stored_kind h store key (stored key h) (st.objects key) (sym (ap has (sym (pod_shown q key (add k q Sync h)) ∙ ap (of_kind pod_in) (sync_shows q k h key))) ∙ there);
    nodes = λ n there.
        ap has (sym (node_shown q n (add k q Sync h)) ∙ ap (of_kind node_in) (sync_shows q k h (node_key n)))
        ∙ stored_node h store n (stored (node_key n) h) (st.objects (node_key n)) (sym (ap has (sync_shows q k h (node_key n))) ∙ there);
  }

  -- a pod that isn't to be judged is seen as before
  pub taken_alike : (names : ℕ → Bool) → ((n : ℕ) → is_among (keys_since q h) (node_key n) ≡ true → names n ≡ false → IsSettled c.cache n (kept_of (stored (node_key n) h)))
      → ((n : ℕ) → is_among (keys_since q h) (node_key n) ≡ true → names n ≡ false → appears c.cache n (kept_of (stored (node_key n) h)) ≡ false)
      → (key : Key) → is_open q (add k q Sync h) (keys_since q h) names key ≡ false → IsAlike q h (add k q Sync h) key
  taken_alike names settled appeared key out =
      by_kind (is_pod key.kind) refl (first_none (is_pod key.kind && is_among (keys_since q h) key) (is_on_open (keys_since q h) names (seen_pod q key (add k q Sync h))) out)
      (second_none (is_pod key.kind && is_among (keys_since q h) key) (is_on_open (keys_since q h) names (seen_pod q key (add k q Sync h))) out)
    where
      g : List Entry
      g = add k q Sync h

      undue_kept : is_stale q key h ≡ false → is_undue q key g ≡ is_undue q key h
      undue_kept fresh = ap (λ b. not (is_pod key.kind) || b) (sync_stale q k h key ∙ sym fresh)

      was_there : (n : ℕ) (b : Bool) → has (kept_in c.cache (node_key n)) ≡ b → (not b && is_node_in (kept_of (stored (node_key n) h))) ≡ false → has (seen_node q n g) ≡ true → has (seen_node q n h) ≡ true
      was_there n true kept none there = s.kinds.nodes n (ap has (sym (s.cache.objects (node_key n))) ∙ kept)
      was_there n false kept none there =
          absurd (false_is (sym none ∙ ap is_node_in (kept_same (stored (node_key n) h) ∙ sym (sync_shows q k h (node_key n))) ∙ sym (is_node_has (shown q (node_key n) g)) ∙ ap has (node_shown q n g) ∙ there))

      kept_node : (n : ℕ) → is_among (keys_since q h) (node_key n) ≡ true → names n ≡ false → KeepsTaints q h g n
      kept_node n written off = record {
        taints =
            ap taints_in (sync_shows q k h (node_key n) ∙ sym (kept_same (stored (node_key n) h)))
            ∙ sym (settled n written off).taints
            ∙ ap taints_in (s.cache.objects (node_key n));
        seen = was_there n (has (kept_in c.cache (node_key n))) refl (appeared n written off);
      }

      on_node : (x : Version × Pod) → seen_pod q key h ≡ Some x → KeepsTaints q h g x.1.node → (name : ℕ) → is_on name (seen_pod q key h) ≡ true → KeepsTaints q h g name
      on_node x sees kept name on = subst (KeepsTaints q h g) (eqb-true x.1.node name (sym (ap (is_on name) sees) ∙ on)) kept

      by_node : (x : Version × Pod) → seen_pod q key h ≡ Some x → is_among (keys_since q h) key ≡ false → (b : Bool) → is_among (keys_since q h) (node_key x.1.node) ≡ b → (b && names x.1.node) ≡ false → IsAlike q h g key
      by_node x sees unwritten true written off =
          alike_as q h g key (sync_pod q k h key unwritten) (undue_kept (sym (s.cache.stale key) ∙ (settled x.1.node written off).fresh key)) (on_node x sees (kept_node x.1.node written off))
      by_node x sees unwritten false apart off =
          alike_as q h g key (sync_pod q k h key unwritten) (undue_kept (fresh_pod q h s.kinds r key unwritten (ap (is_node_among (keys_since q h)) sees ∙ apart)))
          (on_node x sees (taints_kept q h g x.1.node (sync_keeps q k h (node_key x.1.node) apart)))

      by_pod : (o : Option (Version × Pod)) → seen_pod q key h ≡ o → is_among (keys_since q h) key ≡ false → is_on_open (keys_since q h) names o ≡ false → IsAlike q h g key
      by_pod None sees unwritten off =
          alike_as q h g key (sync_pod q k h key unwritten) (undue_kept (fresh_pod q h s.kinds r key unwritten (ap (is_node_among (keys_since q h)) sees)))
          (λ name on. absurd (false_is (sym (ap (is_on name) sees) ∙ on)))
      by_pod (Some x) sees unwritten off = by_node x sees unwritten (is_among (keys_since q h) (node_key x.1.node)) refl off

      by_kind : (b : Bool) → is_pod key.kind ≡ b → (b && is_among (keys_since q h) key) ≡ false → is_on_open (keys_since q h) names (seen_pod q key g) ≡ false → IsAlike q h g key
      by_kind true kind unwritten off = by_pod (seen_pod q key h) refl unwritten (ap (is_on_open (keys_since q h) names) (sym (sync_pod q k h key unwritten)) ∙ off)
      by_kind false kind unwritten off = alike_no_pod q h g key s.kinds taken_kinds kind

  pub taken_over : (names : ℕ → Bool) → ((n : ℕ) → is_among (keys_since q h) (node_key n) ≡ true → names n ≡ false → IsSettled c.cache n (kept_of (stored (node_key n) h)))
      → ((key : Key) → kept_in cache key ≡ cond (is_among (keys_since q h) key) (kept_of (stored key h)) (kept_in c.cache key))
      → ((key : Key) → stale_in cache key ≡ false) → synced_in cache ≡ true → position_in cache ≡ writes h
      → ClusterBut q (add k q Sync h) (λ n. is_among (keys_since q h) (node_key n)) (is_open q (add k q Sync h) (keys_since q h) names) (with_cache c cache)
  taken_over names settled objects stale synced position =
      record {
        cache = record {
          objects = λ key. objects key ∙ by_test key (is_among (keys_since q h) key) refl;
          stale = λ key. stale key ∙ sym (sync_stale q k h key);
          synced = synced ∙ sym (sync_synced q k h);
          position = position ∙ sym (sync_position q k h);
        };
        mode = s.mode;
        unclean = λ n out. s.unclean n refl ∙ sym (sync_dirty q k h n out (fresh_node q h s.kinds r n out));
        dues = λ key out added. s.dues key refl added ∙ by_kind key (is_pod key.kind) refl (first_none (is_pod key.kind && is_among (keys_since q h) key) (is_on_open (keys_since q h) names (seen_pod q key (add k q Sync h))) out)
            (second_none (is_pod key.kind && is_among (keys_since q h) key) (is_on_open (keys_since q h) names (seen_pod q key (add k q Sync h))) out);
        kinds = taken_kinds;
      }
    where
      by_test : (key : Key) (b : Bool) → is_among (keys_since q h) key ≡ b → cond b (kept_of (stored key h)) (kept_in c.cache key) ≡ shown q key (add k q Sync h)
      by_test key true written = kept_same (stored key h) ∙ sym (sync_shows q k h key)
      by_test key false out = s.cache.objects key ∙ sym (sync_keeps q k h key out)

      -- a pod that nobody wrote, by whether its node was
      due_stays : (key : Key) → is_among (keys_since q h) key ≡ false → is_on_open (keys_since q h) names (seen_pod q key h) ≡ false → seen_due q key (add k q Sync h) ≡ seen_due q key h
      due_stays key out on = by_pod (seen_pod q key h) refl on
        where
          due_fresh : is_stale q key h ≡ false → ((name : ℕ) → is_on name (seen_pod q key h) ≡ true → taints_in (shown q (node_key name) (add k q Sync h)) ≡ taints_in (shown q (node_key name) h)) → seen_due q key (add k q Sync h) ≡ seen_due q key h
          due_fresh fresh = due_retained q key h (add k q Sync h) (sync_pod q k h key out) (sync_stale q k h key ∙ sym fresh)

          kept_taints : (name : ℕ) → IsSettled c.cache name (kept_of (stored (node_key name) h)) → taints_in (shown q (node_key name) (add k q Sync h)) ≡ taints_in (shown q (node_key name) h)
          kept_taints name x =
              ap taints_in (sync_shows q k h (node_key name) ∙ sym (kept_same (stored (node_key name) h)))
              ∙ sym x.taints
              ∙ ap taints_in (s.cache.objects (node_key name))

          by_node : (x : Version × Pod) → seen_pod q key h ≡ Some x → (b : Bool) → is_among (keys_since q h) (node_key x.1.node) ≡ b → (b && names x.1.node) ≡ false → seen_due q key (add k q Sync h) ≡ seen_due q key h
          by_node x sees true written out_names =
              let all = settled x.1.node written out_names in
              due_fresh (sym (s.cache.stale key) ∙ all.fresh key)
              (λ name on. kept_taints name (subst (λ n. IsSettled c.cache n (kept_of (stored (node_key n) h))) (eqb-true x.1.node name (sym (ap (is_on name) sees) ∙ on)) all))
          by_node x sees false unwritten out_names =
              sync_due q k h key out (fresh_pod q h s.kinds r key out (ap (is_node_among (keys_since q h)) sees ∙ unwritten))
              (ap (is_node_among (keys_since q h)) (sync_pod q k h key out ∙ sees) ∙ unwritten)

          by_pod : (o : Option (Version × Pod)) → seen_pod q key h ≡ o → is_on_open (keys_since q h) names o ≡ false → seen_due q key (add k q Sync h) ≡ seen_due q key h
          by_pod None sees on = sync_due q k h key out (fresh_pod q h s.kinds r key out (ap (is_node_among (keys_since q h)) sees)) (ap (is_node_among (keys_since q h)) (sync_pod q k h key out ∙ sees))
          by_pod (Some x) sees on = by_node x sees (is_among (keys_since q h) (node_key x.1.node)) refl on

      by_kind : (key : Key) (b : Bool) → is_pod key.kind ≡ b → (b && is_among (keys_since q h) key) ≡ false → is_on_open (keys_since q h) names (seen_pod q key (add k q Sync h)) ≡ false → seen_due q key h ≡ seen_due q key (add k q Sync h)
      by_kind key true kind out on = sym (due_stays key out (ap (is_on_open (keys_since q h) names) (sym (sync_pod q k h key out)) ∙ on))
      by_kind key false kind out on = no_pod_never q key h kind ∙ sym (no_pod_never q key (add k q Sync h) kind)
