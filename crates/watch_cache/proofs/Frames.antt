-- Through which entries a cache stands as it is, and how an own write and a refused try change it.
use Rattle.std.proofs.Common.{◌≡◌, ℕ, ◌+◌, ◌||◌, Bool, true, false, cond, List, [], ◌∷◌, Option, Some, None, Result, Ok, Err, OnOk, refl, sym, ap, ◌∙◌, arith}
use Rattle.kube_base.specs.declared.memory.NoMemory.{NoMemory}
use Rattle.kube_base.specs.declared.numbers.Version.{Version}
use Rattle.kube_objects.specs.declared.deed.Actor.{Actor}
use Rattle.kube_objects.specs.declared.key.Key.{Key}
use Rattle.kube_objects.specs.declared.object.Object.{Object}
use Rattle.kube_objects.specs.Entry.{Entry, Identity, Fact, Ticks, Tick, Sync, actor_of}
use Rattle.kube_objects.specs.Identities.{is_by}
use Rattle.kube_objects.specs.Keys.{key_eq}
use Rattle.kube_objects.specs.Newest.{newest, added, when, only_if, join, or_else, or_zero}
use Rattle.kube_objects.specs.Seen.{tick_shows, seen_says, synced_says, stale_tick, stale_says}
use Rattle.kube_objects.specs.Stored.{Held, holds, at_key, tick_write, writes, next_version}
use Rattle.kube_objects.specs.Tick.{add}
use Rattle.watch_cache.specs.declared.cache.Cache.{Cache}
use Rattle.watch_cache.specs.Kept.{kept}
use Rattle.watch_cache.specs.Stands.{CacheStands, IsNext, is_tick_by, kept_in, object_of, position_in, refused_key, stale_in, sync_says, synced_in, ticks}
use Rattle.watch_cache.proofs.Ticks.{is_sync, marks, same_self, refused_unsynced, refused_writes, shows_written, stales_refused, written_refuses, written_unsynced}

-- what the last entry says, before which the others said this
abbrev pub upper : {A : Type 0} → Option A → Option A → Option A
upper now before = elim now [ None ↦ before | Some x ↦ Some x ]

abbrev pub last_seen : Identity → Key → List Entry → Option (Option Held)
last_seen q key = newest (λ e T. seen_says q key e.beat e.actor e.fact T)

abbrev pub last_stale : Identity → Key → List Entry → Option Bool
last_stale q key = newest (λ e T. stale_says q key e.actor e.fact)

abbrev pub last_synced : Identity → List Entry → Option Bool
last_synced q = newest (λ e T. synced_says q e.actor e.fact)

abbrev pub last_sync : Identity → List Entry → Option ℕ
last_sync q = newest (λ e T. sync_says q e.actor e.fact T)

-- ---- entries that say nothing

-- an entry that says nothing of a cache
pub record SaysNothing (q : Identity) (h : List Entry) (e : Entry) : Type 0 where
  pub seen : (key : Key) → seen_says q key e.beat e.actor e.fact h ≡ None
  pub stale : (key : Key) → stale_says q key e.actor e.fact ≡ None
  pub synced : synced_says q e.actor e.fact ≡ None
  pub sync : sync_says q e.actor e.fact h ≡ None

pub cache-beside : (q : Identity) (h : List Entry) (e : Entry) (c : Cache) → SaysNothing q h e → CacheStands q h c → CacheStands q (e ∷ h) c
cache-beside q h e c none s =
    record {
      objects = λ key. s.objects key ∙ ap (λ o. kept (join (upper o (last_seen q key h)))) (sym (none.seen key));
      stale = λ key. s.stale key ∙ ap (λ o. or_else false (upper o (last_stale q key h))) (sym (none.stale key));
      synced = s.synced ∙ ap (λ o. or_else false (upper o (last_synced q h))) (sym none.synced);
      position = s.position ∙ ap (λ o. or_zero (upper o (last_sync q h))) (sym none.sync);
    }

-- an entry that is no tick of the identity
pub unticked : (q : Identity) (h : List Entry) (e : Entry) → is_tick_by q e.actor e.fact ≡ false → SaysNothing q h e
unticked q h e other = record { seen = λ key. by_seen key e.actor e.fact other; stale = λ key. by_stale key e.actor e.fact other; synced = by_synced e.actor e.fact other; sync = by_sync e.actor e.fact other }
  where
    by_seen : (key : Key) (who : Actor) (d : Fact) → is_tick_by q who d ≡ false → seen_says q key e.beat who d h ≡ None
    by_seen key who (Ticks t) is = ap (λ b. only_if b (tick_shows key e.beat who t h)) is
    by_seen key who d is = refl

    by_stale : (key : Key) (who : Actor) (d : Fact) → is_tick_by q who d ≡ false → stale_says q key who d ≡ None
    by_stale key who (Ticks t) is = ap (λ b. only_if b (stale_tick key t)) is
    by_stale key who d is = refl

    synced_tick : (who : Actor) (t : Tick) → is_by q who ≡ false → synced_says q who (Ticks t) ≡ None
    synced_tick who Sync is = ap (λ b. when b true) is
    synced_tick who t is = refl

    by_synced : (who : Actor) (d : Fact) → is_tick_by q who d ≡ false → synced_says q who d ≡ None
    by_synced who (Ticks t) is = synced_tick who t is
    by_synced who d is = refl

    sync_tick : (who : Actor) (t : Tick) → is_by q who ≡ false → sync_says q who (Ticks t) h ≡ None
    sync_tick who Sync is = ap (λ b. when b (writes h)) is
    sync_tick who t is = refl

    by_sync : (who : Actor) (d : Fact) → is_tick_by q who d ≡ false → sync_says q who d h ≡ None
    by_sync who (Ticks t) is = sync_tick who t is
    by_sync who d is = refl

-- an entry of another identity
pub cache-foreign : (q : Identity) (h : List Entry) (e : Entry) (c : Cache) → is_by q e.actor ≡ false → CacheStands q h c → CacheStands q (e ∷ h) c
cache-foreign q h e c other = cache-beside q h e c (unticked q h e (by_fact e.fact (is_by q e.actor) other))
  where
    by_fact : (d : Fact) (b : Bool) → b ≡ false → is_tick_by q e.actor d ≡ false
    by_fact (Ticks t) b is = other
    by_fact d b is = refl

-- ---- ticks of the identity's own

own_synced : (q : Identity) (t : Tick) → is_sync t ≡ false → synced_says q (actor_of q) (Ticks t) ≡ None
own_synced q Sync is = absurd (cc)
own_synced q t is = refl

own_sync : (q : Identity) (h : List Entry) (t : Tick) → is_sync t ≡ false → sync_says q (actor_of q) (Ticks t) h ≡ None
own_sync q h Sync is = absurd (cc)
own_sync q h t is = refl

own_seen : (q : Identity) (key : Key) (k : ℕ) (h : List Entry) (t : Tick) → is_sync t ≡ false → seen_says q key k (actor_of q) (Ticks t) h ≡ holds h k (actor_of q) (at_key key (tick_write t))
own_seen q key k h t other = ap (λ b. only_if b (tick_shows key k (actor_of q) t h)) (same_self q) ∙ shows_written key k (actor_of q) t h other

own_stale : (q : Identity) (key : Key) (t : Tick) → is_sync t ≡ false → stale_says q key (actor_of q) (Ticks t) ≡ marks key (refused_key t)
own_stale q key t other = ap (λ b. only_if b (stale_tick key t)) (same_self q) ∙ stales_refused key t other

-- a pass, the mode, a zone, a lost try, and a mark or a queued taint that was refused
pub cache-idle : (q : Identity) (h : List Entry) (k : ℕ) (t : Tick) (c : Cache) → is_sync t ≡ false → tick_write t ≡ None → refused_key t ≡ None → CacheStands q h c → CacheStands q (add k q t h) c
cache-idle q h k t c other unwritten unrefused = cache-beside q h _ c (record {
  seen = λ key. own_seen q key k h t other ∙ ap (λ w. holds h k (actor_of q) (at_key key w)) unwritten;
  stale = λ key. own_stale q key t other ∙ ap (marks key) unrefused;
  synced = own_synced q t other;
  sync = own_sync q h t other;
})

version_is : (a b : Version) → a.0 ≡ b.0 → a ≡ b
version_is a b is = λ i. record { 0 = is i }

-- what an own write leaves at a key
written_at : (h : List Entry) (k : ℕ) (who : Actor) (b : Bool) (w : Option (Version × Object)) (before : Option (Option Held)) → IsNext (writes h + 1) w
    → cond b w (kept (join before)) ≡ kept (join (upper (holds h k who (when b (object_of w))) before))
written_at h k who true None before next = refl
written_at h k who true (Some x) before next = ap (λ v. Some (v, x.1)) (version_is x.0 (next_version h) next)
written_at h k who false w before next = refl

-- an own accepted write
pub stands_noted : (q : Identity) (h : List Entry) (k : ℕ) (t : Tick) (old new : Cache) (key : Key) (w : Option (Version × Object)) → CacheStands q h old
    → tick_write t ≡ Some (key, object_of w) → IsNext (writes h + 1) w
    → ((p : Key) → kept_in new p ≡ cond (key_eq key p) w (kept_in old p)) → ((p : Key) → stale_in new p ≡ stale_in old p)
    → synced_in new ≡ synced_in old → position_in new ≡ position_in old → CacheStands q (add k q t h) new
stands_noted q h k t old new key w s is next kept_new stale_new synced_new position_new =
    let other = written_unsynced t (key, object_of w) is in
    record {
      objects = λ p.
          kept_new p
          ∙ ap (λ o. cond (key_eq key p) w o) (s.objects p)
          ∙ written_at h k (actor_of q) (key_eq key p) w (last_seen q p h) next
          ∙ ap (λ o. kept (join (upper (holds h k (actor_of q) (at_key p o)) (last_seen q p h)))) (sym is)
          ∙ ap (λ o. kept (join (upper o (last_seen q p h)))) (sym (own_seen q p k h t other));
      stale = λ p.
          stale_new p
          ∙ s.stale p
          ∙ ap (λ o. or_else false (upper o (last_stale q p h))) (sym (own_stale q p t other ∙ ap (marks p) (written_refuses t (key, object_of w) is)));
      synced = synced_new ∙ s.synced ∙ ap (λ o. or_else false (upper o (last_synced q h))) (sym (own_synced q t other));
      position = position_new ∙ s.position ∙ ap (λ o. or_zero (upper o (last_sync q h))) (sym (own_sync q h t other));
    }

marked_at : (b : Bool) (before : Option Bool) → (b || or_else false before) ≡ or_else false (upper (when b true) before)
marked_at true before = refl
marked_at false before = refl

-- a refused try
pub stands_refused : (q : Identity) (h : List Entry) (k : ℕ) (t : Tick) (old new : Cache) (key : Key) → CacheStands q h old → refused_key t ≡ Some key
    → ((p : Key) → stale_in new p ≡ (key_eq key p || stale_in old p)) → ((p : Key) → kept_in new p ≡ kept_in old p)
    → synced_in new ≡ synced_in old → position_in new ≡ position_in old → CacheStands q (add k q t h) new
stands_refused q h k t old new key s is stale_new kept_new synced_new position_new =
    let other = refused_unsynced t key is in
    record {
      objects = λ p.
          kept_new p
          ∙ s.objects p
          ∙ ap (λ o. kept (join (upper o (last_seen q p h)))) (sym (own_seen q p k h t other ∙ ap (λ o. holds h k (actor_of q) (at_key p o)) (refused_writes t key is)));
      stale = λ p.
          stale_new p
          ∙ ap (λ b. key_eq key p || b) (s.stale p)
          ∙ marked_at (key_eq key p) (last_stale q p h)
          ∙ ap (λ o. or_else false (upper o (last_stale q p h))) (sym (own_stale q p t other ∙ ap (marks p) is));
      synced = synced_new ∙ s.synced ∙ ap (λ o. or_else false (upper o (last_synced q h))) (sym (own_synced q t other));
      position = position_new ∙ s.position ∙ ap (λ o. or_zero (upper o (last_sync q h))) (sym (own_sync q h t other));
    }

-- ---- a term that begins

pub record IsNew (c : Cache) : Type 0 where
  pub objects : (key : Key) → kept_in c key ≡ None
  pub stale : (key : Key) → stale_in c key ≡ false
  pub synced : synced_in c ≡ false
  pub position : position_in c ≡ 0

pub stands_new : (q : Identity) (h : List Entry) (c : Cache) → IsNew c → ticks q h ≡ 0 → CacheStands q h c
stands_new q [] c is none = record { objects = is.objects; stale = is.stale; synced = is.synced; position = is.position }
stands_new q (e ∷ h) c is none =
    let parts = by_test (is_tick_by q e.actor e.fact) none in
    cache-beside q h e c (unticked q h e parts.0) (stands_new q h c is parts.1)
  where
    by_test : (b : Bool) → added b (ticks q h) ≡ 0 → (b ≡ false) × (ticks q h ≡ 0)
    by_test true n = absurd (omega (arith, n))
    by_test false n = (refl, n)

-- an own accepted write, where memory didn't run out
pub noted_result : (q : Identity) (h : List Entry) (k : ℕ) (t : Tick) (old new : Cache) (key : Key) (w : Option (Version × Object)) (r : Result (Unit {0}) NoMemory) → CacheStands q h old
    → tick_write t ≡ Some (key, object_of w) → IsNext (writes h + 1) w
    → OnOk r ((p : Key) → kept_in new p ≡ cond (key_eq key p) w (kept_in old p)) → ((p : Key) → stale_in new p ≡ stale_in old p)
    → synced_in new ≡ synced_in old → position_in new ≡ position_in old → OnOk r (CacheStands q (add k q t h) new)
noted_result q h k t old new key w (Ok x) s is next kept_new stale_new synced_new position_new = stands_noted q h k t old new key w s is next kept_new stale_new synced_new position_new
noted_result q h k t old new key w (Err e) s is next kept_new stale_new synced_new position_new = tt
