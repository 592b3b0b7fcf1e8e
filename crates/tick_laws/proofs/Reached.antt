-- A stale key, or the node of its pod, was written since the last sync: each entry keeps this.
use Rattle.std.proofs.Common.{◌≡◌, ◌∙◌, ℕ, ◌==◌, ◌||◌, not, Bool, true, false, cond, List, [], ◌∷◌, Option, Some, None, refl, sym, ap, subst}
use Rattle.std.proofs.lemmas.Bool.{eq-eqb}
use Rattle.std.proofs.lemmas.List.Folds.{list_any-append}
use Rattle.kube_base.specs.declared.numbers.Version.{Version}
use Rattle.kube_objects.specs.declared.call.Reply.{Reply}
use Rattle.kube_objects.specs.declared.call.Reply.TheVariants as reply
use Rattle.kube_objects.specs.declared.key.Key.{Key}
use Rattle.kube_objects.specs.declared.node.Node.{Node}
use Rattle.kube_objects.specs.declared.object.Object.{Object}
use Rattle.kube_objects.specs.declared.pod.Pod.{Pod}
use Rattle.kube_objects.specs.Answers.{versioned, as_kind, node_in, answer_update}
use Rattle.kube_objects.specs.Deletes.{answer_delete, delete_over, delete_at_node, answer_delete_alone, delete_alone_over}
use Rattle.kube_objects.specs.Entry.{Entry, Identity, Ticks, Tick, Sync, actor_of, entry}
use Rattle.kube_objects.specs.Feeds.{is_among}
use Rattle.kube_objects.specs.Keys.{key_eq}
use Rattle.kube_objects.specs.Newest.{only_if}
use Rattle.kube_objects.specs.Seen.{pod_in, seen, seen_node, seen_pod, is_stale, is_refused}
use Rattle.kube_objects.specs.Stored.{Held, Write, write_of, tick_write, next_version, stored, node_key}
use Rattle.kube_objects.specs.Tick.{add}
use Rattle.kube_objects.specs.Tries.{as_answer, tried, try_node, try_delete, try_delete_alone}
use Rattle.kube_objects.specs.Wire.{loses_requests}
use Rattle.kube_objects.proofs.KeyOrder.{same_key}
use Rattle.history_laws.proofs.Plainly.{none_is, some_is, false_is, true_is}
use Rattle.tick_laws.specs.Changes.{after_write, is_that, wrote_as, with_version}
use Rattle.tick_laws.specs.Judged.{shown}
use Rattle.tick_laws.specs.Since.{is_sync_of, keys_since, is_node_among, IsReached, AreReached}
use Rattle.tick_laws.proofs.Frames.{own_shown, own_refused, same_pod}
use Rattle.tick_laws.proofs.Syncing.{unchanged, sync_stale}
use Rattle.watch_cache.specs.Stands.{and_key, refused_key}
use Rattle.watch_cache.proofs.Ticks.{is_sync}

or_left : (a b : Bool) → a ≡ true → (a || b) ≡ true
or_left true b is = refl
or_left false b is = absurd (false_is is)

or_right : (a b : Bool) → b ≡ true → (a || b) ≡ true
or_right true b is = refl
or_right false b is = is

or_more : (a b c d : Bool) → (a ≡ true → c ≡ true) → (b ≡ true → d ≡ true) → (a || b) ≡ true → (c || d) ≡ true
or_more true b c d f g is = or_left c d (f refl)
or_more false b c d f g is = or_right c d (g is)

-- ---- keys that were written stay among those written since the last sync

pub and_key_keeps : (o : Option Write) (keys : List Key) (key : Key) → is_among keys key ≡ true → is_among (and_key o keys) key ≡ true
and_key_keeps None keys key is = is
and_key_keeps (Some w) keys key is = list_any-append (λ k. key_eq k key) keys (w.0 ∷ []) ∙ or_left (is_among keys key) (is_among (w.0 ∷ []) key) is

pub and_key_adds : (w : Write) (keys : List Key) (key : Key) → key_eq w.0 key ≡ true → is_among (and_key (Some w) keys) key ≡ true
and_key_adds w keys key is =
    list_any-append (λ k. key_eq k key) keys (w.0 ∷ []) ∙ or_right (is_among keys key) (is_among (w.0 ∷ []) key) (or_left (key_eq w.0 key) false is)

node_among_keeps : (o : Option Write) (keys : List Key) (x : Option (Version × Pod)) → is_node_among keys x ≡ true → is_node_among (and_key o keys) x ≡ true
node_among_keeps o keys None is = is
node_among_keeps o keys (Some x) is = and_key_keeps o keys (node_key x.1.node) is

pub unsynced_since : (q : Identity) (h : List Entry) (e : Entry) → is_sync_of q e.actor e.fact ≡ false → keys_since q (e ∷ h) ≡ and_key (write_of e.fact) (keys_since q h)
unsynced_since q h e other = ap (λ b. cond b [] (and_key (write_of e.fact) (keys_since q h))) other

-- where a pod's key reads as before, it is reached as before
pub reached_same : (q : Identity) (h : List Entry) (e : Entry) (key : Key) → is_sync_of q e.actor e.fact ≡ false → seen_pod q key (e ∷ h) ≡ seen_pod q key h → IsReached q h key → IsReached q (e ∷ h) key
reached_same q h e key other same is =
    subst (λ keys. (is_among keys key || is_node_among keys (seen_pod q key (e ∷ h))) ≡ true) (sym (unsynced_since q h e other))
    (subst (λ x. (is_among (and_key (write_of e.fact) (keys_since q h)) key || is_node_among (and_key (write_of e.fact) (keys_since q h)) x) ≡ true) (sym same)
    (or_more (is_among (keys_since q h) key) (is_node_among (keys_since q h) (seen_pod q key h)) _ _
    (and_key_keeps (write_of e.fact) (keys_since q h) key)
    (node_among_keeps (write_of e.fact) (keys_since q h) (seen_pod q key h)) is))

-- ---- an own entry other than a sync

own_unsynced : (q : Identity) (t : Tick) → is_sync t ≡ false → is_sync_of q (actor_of q) (Ticks t) ≡ false
own_unsynced q Sync is = absurd (true_is is)
own_unsynced q t is = refl

module _ (q : Identity) (k : ℕ) (h : List Entry) (t : Tick) (other : is_sync t ≡ false) where
  own_since : keys_since q (add k q t h) ≡ and_key (tick_write t) (keys_since q h)
  own_since = ap (λ b. cond b [] (and_key (tick_write t) (keys_since q h))) (own_unsynced q t other)

  pub reached_kept : (key : Key) → IsReached q h key → IsReached q (add k q t h) key
  reached_kept key is = by_write (tick_write t) refl
    where
      written : (w : Write) → tick_write t ≡ Some w → (b : Bool) → key_eq w.0 key ≡ b → IsReached q (add k q t h) key
      written w wrote true same =
          or_left _ _ (ap (λ keys. is_among keys key) (own_since ∙ ap (λ o. and_key o (keys_since q h)) wrote) ∙ and_key_adds w (keys_since q h) key same)
      written w wrote false same =
          let unwritten : shown q key (add k q t h) ≡ shown q key h =
          own_shown q k h t other key ∙ ap (λ o. after_write (wrote_as h o) key (shown q key h)) wrote ∙ ap (λ b. cond b (with_version (next_version h) w.1) (shown q key h)) same
          in
          reached_same q h (entry k 4 q (Ticks t)) key (own_unsynced q t other) (same_pod q key h (add k q t h) unwritten) is

      by_write : (o : Option Write) → tick_write t ≡ o → IsReached q (add k q t h) key
      by_write None wrote =
          let unwritten : shown q key (add k q t h) ≡ shown q key h = own_shown q k h t other key ∙ ap (λ o. after_write (wrote_as h o) key (shown q key h)) wrote in
          reached_same q h (entry k 4 q (Ticks t)) key (own_unsynced q t other) (same_pod q key h (add k q t h) unwritten) is
      by_write (Some w) wrote = written w wrote (key_eq w.0 key) refl

  -- if what it makes stale is reached
  pub own_reached : AreReached q h → ((key : Key) → refused_key t ≡ Some key → IsReached q h key) → AreReached q (add k q t h)
  own_reached old new key stale = reached_kept key (by_key (refused_key t) refl (sym (own_refused q k h t other key) ∙ stale))
    where
      by_test : (key' : Key) → refused_key t ≡ Some key' → (b : Bool) → key_eq key' key ≡ b → (b || is_stale q key h) ≡ true → IsReached q h key
      by_test key' made true same is = subst (IsReached q h) (same_key key' key same) (new key' made)
      by_test key' made false same is = old key is

      by_key : (o : Option Key) → refused_key t ≡ o → (is_that o key || is_stale q key h) ≡ true → IsReached q h key
      by_key None made is = old key is
      by_key (Some key') made is = by_test key' made (key_eq key' key) refl is

-- a sync leaves nothing stale
pub sync_reached : (q : Identity) (k : ℕ) (h : List Entry) → AreReached q (add k q Sync h)
sync_reached q k h key stale = absurd (false_is (sym (sync_stale q k h key) ∙ stale))

-- ---- a refused try tells of a write since the last sync

-- what is seen at a key that nobody wrote since is stored
seen_stored : (q : Identity) (key : Key) (h : List Entry) {A : Type 0} (f : Object → Option A) (x : Version × A) → as_kind f (seen q key h) ≡ Some x → is_among (keys_since q h) key ≡ false
    → (y : Held) × (stored key h ≡ Some y) × (y.version ≡ x.0)
seen_stored q key h f x sees out = by_held (stored key h) refl (ap (as_kind f) (sym (unchanged q key h out)) ∙ sees)
  where
    by_kind : (y : Held) {A : Type 0} (o : Option A) (x : Version × A) → versioned y.version o ≡ Some x → y.version ≡ x.0
    by_kind y None x is = absurd (none_is x is)
    by_kind y (Some a) x is = ap (λ p. p.0) (some_is (y.version, a) x is)

    by_held : (o : Option Held) → stored key h ≡ o → as_kind f o ≡ Some x → (y : Held) × (stored key h ≡ Some y) × (y.version ≡ x.0)
    by_held None same is = absurd (none_is x is)
    by_held (Some y) same is = (y, same, by_kind y (f y.object) x is)

refused_reply : (q : Identity) (h : List Entry) (next : Version) (r : Reply) → r ≡ reply.Done next → is_refused (tried q r h) ≡ false
refused_reply q h next r is = ap (λ r. is_refused (tried q r h)) is ∙ by_test (not (loses_requests q.process h))
  where
    by_test : (b : Bool) → is_refused (only_if b (as_answer (reply.Done next))) ≡ false
    by_test true = refl
    by_test false = refl

same_version : (a b : Version) → a ≡ b → (a.0 == b.0) ≡ true
same_version a b is = eq-eqb a.0 b.0 (ap (λ (v : Version). v.0) is)

-- a node's
pub refused_node_reached : (q : Identity) (name : ℕ) (h : List Entry) (x : Version × Node) → seen_node q name h ≡ Some x → is_refused (try_node q name x.0 h) ≡ true → IsReached q h (node_key name)
refused_node_reached q name h x sees refused = or_left _ _ (by_test (is_among (keys_since q h) (node_key name)) refl)
  where
    by_test : (b : Bool) → is_among (keys_since q h) (node_key name) ≡ b → b ≡ true
    by_test true out = refl
    by_test false out =
        let held = seen_stored q (node_key name) h node_in x sees out in
        let done : answer_update (next_version h) x.0 (stored (node_key name) h) ≡ reply.Done (next_version h) =
        ap (answer_update (next_version h) x.0) held.1 ∙ ap (λ b. cond b (reply.Done (next_version h)) (reply.Conflict held.0.version)) (same_version held.0.version x.0 held.2)
        in
        absurd (true_is (sym refused ∙ refused_reply q h (next_version h) _ done))

-- a pod's
pub refused_pod_reached : (q : Identity) (pod : Key) (h : List Entry) (x : Version × Pod) (y : Version × Node) → seen_pod q pod h ≡ Some x → seen_node q x.1.node h ≡ Some y
    → is_refused (try_delete q pod x.0 x.1.node y.0 h) ≡ true → IsReached q h pod
refused_pod_reached q pod h x y sees sees_node refused =
    subst (λ o. (is_among (keys_since q h) pod || is_node_among (keys_since q h) o) ≡ true) (sym sees) (by_test (is_among (keys_since q h) pod) refl (is_among (keys_since q h) (node_key x.1.node)) refl)
  where
    by_test : (b : Bool) → is_among (keys_since q h) pod ≡ b → (c : Bool) → is_among (keys_since q h) (node_key x.1.node) ≡ c → (b || c) ≡ true
    by_test true out c node_out = refl
    by_test false out true node_out = refl
    by_test false out false node_out =
        let held = seen_stored q pod h pod_in x sees out in
        let node = seen_stored q (node_key x.1.node) h node_in y sees_node node_out in
        let done : answer_delete pod x.0 (node_key x.1.node) y.0 h ≡ reply.Done (next_version h) =
        ap (λ o. delete_over (next_version h) x.0 y.0 o (stored (node_key x.1.node) h)) held.1
        ∙ ap (λ o. delete_over (next_version h) x.0 y.0 (Some held.0) o) node.1
        ∙ ap (λ b. cond b (delete_at_node (next_version h) y.0 (Some node.0)) (reply.Conflict held.0.version)) (same_version held.0.version x.0 held.2)
        ∙ ap (λ b. cond b (reply.Done (next_version h)) (reply.Conflict node.0.version)) (same_version node.0.version y.0 node.2)
        in
        absurd (true_is (sym refused ∙ refused_reply q h (next_version h) _ done))

-- a pod's, by its own version alone
pub refused_alone_reached : (q : Identity) (pod : Key) (h : List Entry) (x : Version × Pod) → seen_pod q pod h ≡ Some x → is_refused (try_delete_alone q pod x.0 h) ≡ true → IsReached q h pod
refused_alone_reached q pod h x sees refused = by_test (is_among (keys_since q h) pod) refl
  where
    by_test : (b : Bool) → is_among (keys_since q h) pod ≡ b → (b || is_node_among (keys_since q h) (seen_pod q pod h)) ≡ true
    by_test true out = refl
    by_test false out =
        let held = seen_stored q pod h pod_in x sees out in
        let done : answer_delete_alone pod x.0 h ≡ reply.Done (next_version h) =
        ap (delete_alone_over (next_version h) x.0) held.1 ∙ ap (λ b. cond b (reply.Done (next_version h)) (reply.Conflict held.0.version)) (same_version held.0.version x.0 held.2)
        in
        absurd (true_is (sym refused ∙ refused_reply q h (next_version h) _ done))
