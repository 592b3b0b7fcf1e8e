-- What was written since the last sync, and what a sync changes.
use Rattle.std.proofs.Common.{◌≡◌, ◌∙◌, ℕ, ◌+◌, ◌≤◌, ◌==◌, ◌&&◌, ◌++◌, Bool, true, false, cond, List, [], ◌∷◌, length, drop, take, Option, Some, None, refl, sym, ap, subst, arith}
use Rattle.std.proofs.lemmas.Bool.{eqb-true, eq-eqb}
use Rattle.std.proofs.lemmas.Bool.Decides.{nat_tests}
use Rattle.std.proofs.lemmas.List.{drop-append-le, drop_all, take-append-drop, length-take-le}
use Rattle.kube_base.specs.declared.numbers.Version.{Version}
use Rattle.kube_objects.specs.declared.deed.Actor.{Actor}
use Rattle.kube_objects.specs.declared.key.Key.{Key}
use Rattle.kube_objects.specs.declared.pod.Pod.{Pod}
use Rattle.kube_objects.specs.Entry.{Entry, Identity, Place, Fact, Ticks, Tick, Sync}
use Rattle.kube_objects.specs.Feeds.{is_among}
use Rattle.kube_objects.specs.Identities.{is_by}
use Rattle.kube_objects.specs.Modes.{mode}
use Rattle.kube_objects.specs.Newest.{newest, added, has, when, or_else, or_zero}
use Rattle.kube_objects.specs.Seen.{seen, seen_node, seen_pod, fresh_says, is_fresh, synced_says, is_synced, is_stale}
use Rattle.kube_objects.specs.Stored.{Write, write_of, tick_write, writes, stored, node_key}
use Rattle.kube_objects.specs.Tainting.{waits}
use Rattle.kube_objects.specs.Tick.{add}
use Rattle.history_laws.proofs.Plainly.{false_is}
use Rattle.tick_laws.specs.Judged.{shown, is_dirty, seen_due}
use Rattle.tick_laws.specs.Since.{is_sync_of, keys_since, is_node_among}
use Rattle.tick_laws.proofs.Frames.{own_seen, own_stale, same_node, same_pod}
use Rattle.tick_laws.proofs.Tried.{dirty_kept, waits_kept, due_kept}
use Rattle.watch_cache.specs.Kept.{kept, is_on}
use Rattle.watch_cache.specs.Stands.{sync_says, synced_writes, and_key, written_keys}
use Rattle.watch_cache.proofs.Frames.{upper, last_synced, last_sync}
use Rattle.watch_cache.proofs.Syncs.{synced_few, unlisted, written-count}
use Rattle.watch_cache.proofs.Ticks.{same_self}

-- ---- the changes from the position of the last sync on are those written since

drop_whole : {A : Type 0} (xs : List A) (n : ℕ) → n ≡ length xs → drop n xs ≡ []
drop_whole xs n is = drop_all n xs (omega (arith, is))

drop_key : (o : Option Write) (n : ℕ) (keys : List Key) → n ≤ length keys → and_key o (drop n keys) ≡ drop n (and_key o keys)
drop_key None n keys le = refl
drop_key (Some w) n keys le = sym (drop-append-le n keys (w.0 ∷ []) le)

pub keys_since_is : (q : Identity) (h : List Entry) → keys_since q h ≡ drop (synced_writes q h) (written_keys h)
keys_since_is q [] = refl
keys_since_is q (e ∷ h) = cases e.actor e.fact (keys_since_is q h)
  where
    few : synced_writes q h ≤ length (written_keys h)
    few = subst (λ n. synced_writes q h ≤ n) (sym (written-count h)) (synced_few q h)

    by_write : (o : Option Write) → keys_since q h ≡ drop (synced_writes q h) (written_keys h) → and_key o (keys_since q h) ≡ drop (synced_writes q h) (and_key o (written_keys h))
    by_write o rest = ap (and_key o) rest ∙ drop_key o (synced_writes q h) (written_keys h) few

    by_own : (b : Bool) → keys_since q h ≡ drop (synced_writes q h) (written_keys h) → cond b [] (keys_since q h) ≡ drop (or_zero (upper (when b (writes h)) (last_sync q h))) (written_keys h)
    by_own true rest = sym (drop_whole (written_keys h) (writes h) (sym (written-count h)))
    by_own false rest = rest

    of_tick : (who : Actor) (t : Tick) → keys_since q h ≡ drop (synced_writes q h) (written_keys h)
        → cond (is_sync_of q who (Ticks t)) [] (and_key (tick_write t) (keys_since q h)) ≡ drop (or_zero (upper (sync_says q who (Ticks t) h) (last_sync q h))) (and_key (tick_write t) (written_keys h))
    of_tick who Sync rest = by_own (is_by q who) rest
    of_tick who t rest = by_write (tick_write t) rest

    cases : (who : Actor) (d : Fact) → keys_since q h ≡ drop (synced_writes q h) (written_keys h)
        → cond (is_sync_of q who d) [] (and_key (write_of d) (keys_since q h)) ≡ drop (or_zero (upper (sync_says q who d h) (last_sync q h))) (and_key (write_of d) (written_keys h))
    cases who (Ticks t) rest = of_tick who t rest
    cases who d rest = by_write (write_of d) rest

-- a key that nobody wrote since the last sync is seen as it is stored
pub unchanged : (q : Identity) (key : Key) (h : List Entry) → is_among (keys_since q h) key ≡ false → seen q key h ≡ stored key h
unchanged q key h is = unlisted q key h (ap (λ keys. is_among keys key) (sym (keys_since_is q h)) ∙ is)

-- ---- a sync

module _ (q : Identity) (k : ℕ) (h : List Entry) where
  pub sync_sees : (key : Key) → seen q key (add k q Sync h) ≡ stored key h
  sync_sees key = own_seen q k h Sync key

  pub sync_shows : (key : Key) → shown q key (add k q Sync h) ≡ kept (stored key h)
  sync_shows key = ap kept (sync_sees key)

  pub sync_keeps : (key : Key) → is_among (keys_since q h) key ≡ false → shown q key (add k q Sync h) ≡ shown q key h
  sync_keeps key out = ap kept (sync_sees key ∙ sym (unchanged q key h out))

  pub sync_stale : (key : Key) → is_stale q key (add k q Sync h) ≡ false
  sync_stale key = own_stale q k h Sync key

  pub sync_mode : mode q (add k q Sync h) ≡ mode q h
  sync_mode = refl

  pub sync_synced : is_synced q (add k q Sync h) ≡ true
  sync_synced = ap (λ b. or_else false (upper (when b true) (last_synced q h))) (same_self q)

  pub sync_position : synced_writes q (add k q Sync h) ≡ writes h
  sync_position = ap (λ b. or_zero (upper (when b (writes h)) (last_sync q h))) (same_self q)

  pub sync_since : keys_since q (add k q Sync h) ≡ []
  sync_since = ap (λ b. cond b [] (keys_since q h)) (same_self q)

  pub sync_node : (m : ℕ) → is_among (keys_since q h) (node_key m) ≡ false → seen_node q m (add k q Sync h) ≡ seen_node q m h
  sync_node m out = same_node q m h (add k q Sync h) (sync_keeps (node_key m) out)

  pub sync_pod : (key : Key) → is_among (keys_since q h) key ≡ false → seen_pod q key (add k q Sync h) ≡ seen_pod q key h
  sync_pod key out = same_pod q key h (add k q Sync h) (sync_keeps key out)

  -- a node that nobody wrote and that wasn't stale
  pub sync_dirty : (m : ℕ) → is_among (keys_since q h) (node_key m) ≡ false → is_stale q (node_key m) h ≡ false → is_dirty q m (add k q Sync h) ≡ is_dirty q m h
  sync_dirty m out fresh = dirty_kept q h (add k q Sync h) m (sync_stale (node_key m) ∙ sym fresh) refl (sync_node m out)

  pub sync_waits : (place : Place) (m : ℕ) → is_among (keys_since q h) (node_key m) ≡ false → waits q place m (add k q Sync h) ≡ waits q place m h
  sync_waits place m out = waits_kept q h (add k q Sync h) place m refl (sync_node m out)

  -- a pod that nobody wrote, that wasn't stale, and whose node nobody wrote
  pub sync_due_on : (key : Key) → is_among (keys_since q h) key ≡ false → is_stale q key h ≡ false
      → ((node : ℕ) → is_on node (seen_pod q key h) ≡ true → is_among (keys_since q h) (node_key node) ≡ false) → seen_due q key (add k q Sync h) ≡ seen_due q key h
  sync_due_on key out fresh nodes =
      due_kept q key h (add k q Sync h) (λ kind. sync_pod key out) (λ kind. sync_stale key ∙ sym fresh) (λ kind node on. sync_node node (nodes node on))

  -- the same where its node, as it is seen after the sync, isn't among those written
  pub sync_due : (key : Key) → is_among (keys_since q h) key ≡ false → is_stale q key h ≡ false → is_node_among (keys_since q h) (seen_pod q key (add k q Sync h)) ≡ false
      → seen_due q key (add k q Sync h) ≡ seen_due q key h
  sync_due key out fresh node = sync_due_on key out fresh (by_pod (seen_pod q key h) (ap (is_node_among (keys_since q h)) (sym (sync_pod key out)) ∙ node))
    where
      by_pod : (o : Option (Version × Pod)) → is_node_among (keys_since q h) o ≡ false → (node : ℕ) → is_on node o ≡ true → is_among (keys_since q h) (node_key node) ≡ false
      by_pod None out node on = absurd (false_is on)
      by_pod (Some x) out node on = subst (λ n. is_among (keys_since q h) (node_key n) ≡ false) (eqb-true x.1.node node on) out

-- ---- a front as long as the position, and the keys since

pub keys_split : (q : Identity) (h : List Entry) → (front : List Key) × (written_keys h ≡ front ++ keys_since q h) × (length front ≡ synced_writes q h)
keys_split q h = (
  take (synced_writes q h) (written_keys h),
  sym (ap (λ keys. take (synced_writes q h) (written_keys h) ++ keys) (keys_since_is q h) ∙ take-append-drop (synced_writes q h) (written_keys h)),
  length-take-le (synced_writes q h) (written_keys h) (subst (λ n. synced_writes q h ≤ n) (sym (written-count h)) (synced_few q h)),
)

-- ---- a cache is up to date exactly where it was synced and nothing was written since

pub fresh_is : (q : Identity) (h : List Entry) → is_fresh q h ≡ (is_synced q h && (synced_writes q h == writes h))
fresh_is q [] = refl
fresh_is q (e ∷ h) = cases e.actor e.fact (fresh_is q h)
  where
    apart : (m n : ℕ) → m ≤ n → (m == n + 1) ≡ false
    apart m n le = grind (arith, nat_tests)

    and_false : (b : Bool) → (b && false) ≡ false
    and_false true = refl
    and_false false = refl

    by_write : (o : Option Write) → is_fresh q h ≡ (is_synced q h && (synced_writes q h == writes h)) → or_else false (upper (when (has o) false) (newest (λ e T. fresh_says q e.actor e.fact) h)) ≡ (is_synced q h && (synced_writes q h == added (has o) (writes h)))
    by_write None old = old
    by_write (Some w) old = sym (ap (λ b. is_synced q h && b) (apart (synced_writes q h) (writes h) (synced_few q h)) ∙ and_false (is_synced q h))

    by_sync : (b : Bool) → is_fresh q h ≡ (is_synced q h && (synced_writes q h == writes h)) → or_else false (upper (when b true) (newest (λ e T. fresh_says q e.actor e.fact) h))
        ≡ (or_else false (upper (when b true) (last_synced q h)) && (or_zero (upper (when b (writes h)) (last_sync q h)) == writes h))
    by_sync true old = sym (eq-eqb (writes h) (writes h) refl)
    by_sync false old = old

    of_tick : (who : Actor) (t : Tick) → is_fresh q h ≡ (is_synced q h && (synced_writes q h == writes h)) → or_else false (upper (fresh_says q who (Ticks t)) (newest (λ e T. fresh_says q e.actor e.fact) h))
        ≡ (or_else false (upper (synced_says q who (Ticks t)) (last_synced q h)) && (or_zero (upper (sync_says q who (Ticks t) h) (last_sync q h)) == added (has (tick_write t)) (writes h)))
    of_tick who Sync old = by_sync (is_by q who) old
    of_tick who t old = by_write (tick_write t) old

    cases : (who : Actor) (d : Fact) → is_fresh q h ≡ (is_synced q h && (synced_writes q h == writes h)) → or_else false (upper (fresh_says q who d) (newest (λ e T. fresh_says q e.actor e.fact) h))
        ≡ (or_else false (upper (synced_says q who d) (last_synced q h)) && (or_zero (upper (sync_says q who d h) (last_sync q h)) == added (has (write_of d)) (writes h)))
    cases who (Ticks t) old = of_tick who t old
    cases who d old = by_write (write_of d) old
