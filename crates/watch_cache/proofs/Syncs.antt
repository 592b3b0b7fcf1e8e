-- After a sync a cache has what is stored, since what isn't among the changes since the last sync is as it was.
use Rattle.std.proofs.Common.{◌≡◌, ℕ, ◌+◌, ◌≤◌, ◌||◌, Bool, true, false, cond, List, [], ◌∷◌, ◌++◌, length, drop, Option, Some, None, refl, sym, ap, ◌∙◌, subst, arith}
use Rattle.std.proofs.lemmas.List.{drop-append-le, length-append}
use Rattle.std.proofs.lemmas.List.Folds.{list_any-append}
use Rattle.kube_base.specs.declared.numbers.Version.{Version}
use Rattle.kube_objects.specs.declared.deed.Actor.{Actor}
use Rattle.kube_objects.specs.declared.key.Key.{Key}
use Rattle.kube_objects.specs.declared.object.Object.{Object}
use Rattle.kube_objects.specs.Entry.{Entry, Identity, Fact, Ticks, Tick, Sync}
use Rattle.kube_objects.specs.Feeds.{is_among}
use Rattle.kube_objects.specs.Identities.{is_by}
use Rattle.kube_objects.specs.Keys.{key_eq}
use Rattle.kube_objects.specs.Newest.{added, has, when, only_if, join, or_else, or_zero}
use Rattle.kube_objects.specs.Seen.{seen_says, seen, tick_shows}
use Rattle.kube_objects.specs.Stored.{Held, Write, holds, at_key, tick_write, write_of, writes, last_write, stored}
use Rattle.kube_objects.specs.Tick.{add}
use Rattle.watch_cache.specs.declared.cache.Cache.{Cache}
use Rattle.watch_cache.specs.Kept.{kept}
use Rattle.watch_cache.specs.Stands.{AreStored, CacheStands, and_key, kept_in, position_in, stale_in, sync_says, synced_in, synced_writes, written_keys}
use Rattle.watch_cache.proofs.Frames.{upper, last_seen, last_stale, last_synced, last_sync}
use Rattle.watch_cache.proofs.Ticks.{same_self}

-- ---- the list of changes

longer : (o : Option Write) (keys : List Key) (n : ℕ) → length keys ≡ n → length (and_key o keys) ≡ added (has o) n
longer None keys n is = is
longer (Some w) keys n is = length-append keys (w.0 ∷ []) ∙ ap (λ m. m + 1) is

pub written-count : (h : List Entry) → length (written_keys h) ≡ writes h
written-count [] = refl
written-count (e ∷ h) = longer (write_of e.fact) (written_keys h) (writes h) (written-count h)

no_less : (b : Bool) (m n : ℕ) → m ≤ n → m ≤ added b n
no_less true m n le = omega (arith, le)
no_less false m n le = le

-- a sync doesn't count later writes
pub synced_few : (q : Identity) (h : List Entry) → synced_writes q h ≤ writes h
synced_few q [] = omega arith
synced_few q (e ∷ h) = no_less (has (write_of e.fact)) (synced_writes q (e ∷ h)) (writes h) (cases e.actor e.fact (synced_few q h))
  where
    by_own : (b : Bool) → or_zero (last_sync q h) ≤ writes h → or_zero (upper (when b (writes h)) (last_sync q h)) ≤ writes h
    by_own true rest = omega arith
    by_own false rest = rest

    of_tick : (who : Actor) (t : Tick) → or_zero (last_sync q h) ≤ writes h → or_zero (upper (sync_says q who (Ticks t) h) (last_sync q h)) ≤ writes h
    of_tick who Sync rest = by_own (is_by q who) rest
    of_tick who t rest = rest

    cases : (who : Actor) (d : Fact) → or_zero (last_sync q h) ≤ writes h → or_zero (upper (sync_says q who d h) (last_sync q h)) ≤ writes h
    cases who (Ticks t) rest = of_tick who t rest
    cases who d rest = rest

-- ---- what isn't among the changes since the last sync

or_parts : (a b : Bool) → (a || b) ≡ false → (a ≡ false) × (b ≡ false)
or_parts true b is = absurd (cc)
or_parts false b is = (refl, is)

-- a write at the end of the changes is of another key
other_write : (keys : List Key) (n : ℕ) (key : Key) (w : Write) → n ≤ length keys → is_among (drop n (keys ++ w.0 ∷ [])) key ≡ false → (is_among (drop n keys) key ≡ false) × (key_eq w.0 key ≡ false)
other_write keys n key w le is =
    let whole : (is_among (drop n keys) key || (key_eq w.0 key || false)) ≡ false =
    sym (list_any-append (λ k. key_eq k key) (drop n keys) (w.0 ∷ [])) ∙ ap (λ ks. is_among ks key) (sym (drop-append-le n keys (w.0 ∷ []) le)) ∙ is
    in
    let parts = or_parts (is_among (drop n keys) key) (key_eq w.0 key || false) whole in
    (parts.0, (or_parts (key_eq w.0 key) false parts.1).0)

-- what isn't written stays on both sides
untouched : (q : Identity) (key : Key) (h : List Entry) (k : ℕ) (who : Actor) (o : Option Write) (n : ℕ) → n ≤ length (written_keys h) → is_among (drop n (and_key o (written_keys h))) key ≡ false
    → (is_among (drop n (written_keys h)) key ≡ false) × (holds h k who (at_key key o) ≡ None)
untouched q key h k who None n le is = (is, refl)
untouched q key h k who (Some w) n le is =
    let parts = other_write (written_keys h) n key w le is in
    (parts.0, ap (λ b. holds h k who (when b w.1)) parts.1)

abbrev Unlisted : Identity → Key → List Entry → Type 0
Unlisted q key h = is_among (drop (synced_writes q h) (written_keys h)) key ≡ false → seen q key h ≡ stored key h

pub unlisted : (q : Identity) (key : Key) (h : List Entry) → is_among (drop (synced_writes q h) (written_keys h)) key ≡ false → seen q key h ≡ stored key h
unlisted q key [] is = refl
unlisted q key (e ∷ h) is = cases (unlisted q key h) e.actor e.fact is
  where
    few : synced_writes q h ≤ length (written_keys h)
    few = subst (λ n. synced_writes q h ≤ n) (sym (written-count h)) (synced_few q h)

    -- an entry that isn't a sync
    no_sync : Unlisted q key h → (who : Actor) (o : Option Write) (says : Option (Option Held)) → (holds h e.beat who (at_key key o) ≡ None → says ≡ None)
        → is_among (drop (synced_writes q h) (and_key o (written_keys h))) key ≡ false → join (upper says (last_seen q key h)) ≡ join (upper (holds h e.beat who (at_key key o)) (last_write key h))
    no_sync rest who o says quiet is =
        let parts = untouched q key h e.beat who o (synced_writes q h) few is in
        ap (λ x. join (upper x (last_seen q key h))) (quiet parts.1) ∙ rest parts.0 ∙ ap (λ x. join (upper x (last_write key h))) (sym parts.1)

    quietly : (b : Bool) (x : Option (Option Held)) → x ≡ None → only_if b x ≡ None
    quietly true x none = none
    quietly false x none = refl

    by_own : Unlisted q key h → (b : Bool) → is_among (drop (or_zero (upper (when b (writes h)) (last_sync q h))) (written_keys h)) key ≡ false
        → join (upper (only_if b (Some (stored key h))) (last_seen q key h)) ≡ stored key h
    by_own rest true is = refl
    by_own rest false is = rest is

    of_tick : Unlisted q key h → (who : Actor) (t : Tick) → is_among (drop (or_zero (upper (sync_says q who (Ticks t) h) (last_sync q h))) (and_key (tick_write t) (written_keys h))) key ≡ false
        → join (upper (only_if (is_by q who) (tick_shows key e.beat who t h)) (last_seen q key h)) ≡ join (upper (holds h e.beat who (at_key key (tick_write t))) (last_write key h))
    of_tick rest who Sync is = by_own rest (is_by q who) is
    of_tick rest who t is = no_sync rest who (tick_write t) (only_if (is_by q who) (holds h e.beat who (at_key key (tick_write t)))) (quietly (is_by q who) (holds h e.beat who (at_key key (tick_write t)))) is

    cases : Unlisted q key h → (who : Actor) (d : Fact) → is_among (drop (or_zero (upper (sync_says q who d h) (last_sync q h))) (and_key (write_of d) (written_keys h))) key ≡ false
        → join (upper (seen_says q key e.beat who d h) (last_seen q key h)) ≡ join (upper (holds h e.beat who (at_key key (write_of d))) (last_write key h))
    cases rest who (Ticks t) is = of_tick rest who t is
    cases rest who d is = no_sync rest who (write_of d) None (λ none. refl) is

-- ---- a sync

-- what a sync made of a cache, by what it read
pub record Synced (keys changed : List Key) (shown : Key → Option (Version × Object)) (old new : Cache) : Type 0 where
  pub kept : (key : Key) → kept_in new key ≡ cond (is_among keys key) (shown key) (kept_in old key)
  pub stale : (key : Key) → stale_in new key ≡ false
  pub synced : synced_in new ≡ true
  pub position : position_in new ≡ length changed

pub stands_synced : (q : Identity) (h : List Entry) (k : ℕ) (keys changed : List Key) (shown : Key → Option (Version × Object)) (old new : Cache) → keys ≡ drop (position_in old) changed
    → CacheStands q h old → AreStored h changed shown → Synced keys changed shown old new → CacheStands q (add k q Sync h) new
stands_synced q h k keys changed shown old new last s read done =
    record {
      objects = λ key. done.kept key ∙ by_test key (is_among keys key) refl ∙ ap (λ b. kept (join (upper (only_if b (Some (stored key h))) (last_seen q key h)))) (sym (same_self q));
      stale = λ key. done.stale key ∙ ap (λ b. or_else false (upper (only_if b (Some false)) (last_stale q key h))) (sym (same_self q));
      synced = done.synced ∙ ap (λ b. or_else false (upper (when b true) (last_synced q h))) (sym (same_self q));
      position = done.position ∙ ap length read.changed ∙ written-count h ∙ ap (λ b. or_zero (upper (when b (writes h)) (last_sync q h))) (sym (same_self q));
    }
  where
    since : keys ≡ drop (synced_writes q h) (written_keys h)
    since = last ∙ ap (λ n. drop n changed) s.position ∙ ap (drop (synced_writes q h)) read.changed

    by_test : (key : Key) (b : Bool) → is_among keys key ≡ b → cond b (shown key) (kept_in old key) ≡ kept (stored key h)
    by_test key true is = read.shown key
    by_test key false is = s.objects key ∙ ap kept (unlisted q key h (ap (λ ks. is_among ks key) (sym since) ∙ is))
