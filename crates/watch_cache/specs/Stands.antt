-- The cache of a term stands for a history.
use Rattle.std.specs.Prelude.{◌≡◌, ℕ, Bool, false, List, [], ◌∷◌, ◌++◌, Option, Some, None}
use Rattle.std.specs.BTreeSet.{contains}
use Rattle.kube_base.specs.declared.numbers.Version.{Version}
use Rattle.kube_objects.specs.declared.deed.Actor.{Actor}
use Rattle.kube_objects.specs.declared.key.Key.{Key}
use Rattle.kube_objects.specs.declared.object.Object.{Object}
use Rattle.kube_objects.specs.Entry.{Entry, Identity, Fact, Ticks, Tick, Sync, Untaint, Swap, Delete}
use Rattle.kube_objects.specs.Identities.{is_by}
use Rattle.kube_objects.specs.Keys.{key_cmp}
use Rattle.kube_objects.specs.Newest.{newest, count, when, or_zero}
use Rattle.kube_objects.specs.Seen.{seen, is_synced, is_stale, is_refused}
use Rattle.kube_objects.specs.Stored.{Write, write_of, writes, stored, node_key}
use Rattle.watch_cache.specs.declared.cache.Cache.{Cache}
use Rattle.watch_cache.specs.Kept.{kept}
use Rattle.watch_cache.specs.Objects.{object_at}

-- ---- what a cache keeps

-- the object that is kept under a key, with its version
abbrev pub kept_in : Cache → Key → Option (Version × Object)
kept_in cache key = object_at cache.objects key

abbrev pub stale_in : Cache → Key → Bool
stale_in cache key = contains key_cmp cache.stale key

abbrev pub synced_in : Cache → Bool
synced_in cache = cache.synced

abbrev pub position_in : Cache → ℕ
position_in cache = cache.position

-- ---- the same, read from the history

abbrev pub sync_says : Identity → Actor → Fact → List Entry → Option ℕ
sync_says q who (Ticks Sync) h = when (is_by q who) (writes h)
sync_says q who _ h = None

-- the number of accepted writes before the term's last sync, 0 before its first
abbrev pub synced_writes : Identity → List Entry → ℕ
synced_writes q h = or_zero (newest (λ e T. sync_says q e.actor e.fact T) h)

-- one clause for each field
pub record CacheStands (q : Identity) (h : List Entry) (c : Cache) : Type 0 where
  pub objects : (key : Key) → kept_in c key ≡ kept (seen q key h)
  pub stale : (key : Key) → stale_in c key ≡ is_stale q key h
  pub synced : synced_in c ≡ is_synced q h
  pub position : position_in c ≡ synced_writes q h

-- ---- what a term's entries are to its cache

abbrev pub is_tick_by : Identity → Actor → Fact → Bool
is_tick_by q who (Ticks tick) = is_by q who
is_tick_by q who _ = false

-- how many entries of ticks the identity has
abbrev pub ticks : Identity → List Entry → ℕ
ticks q = count (λ e. is_tick_by q e.actor e.fact)

-- the key that a refused untaint, swap or delete makes stale
abbrev pub refused_key : Tick → Option Key
refused_key (Untaint node given written tried) = when (is_refused tried) (node_key node)
refused_key (Swap node wanted given written tried) = when (is_refused tried) (node_key node)
refused_key (Delete pod given node_given due tried) = when (is_refused tried) pod
refused_key _ = None

-- ---- the store that a sync reads

-- the key of each accepted write, the oldest first
abbrev pub and_key : Option Write → List Key → List Key
and_key None keys = keys
and_key (Some write) keys = keys ++ write.0 ∷ []

abbrev pub written_keys : List Entry → List Key
written_keys [] = []
written_keys (e ∷ h) = and_key (write_of e.fact) (written_keys h)

-- these are the changes so far, and this is what is stored now
pub record AreStored (h : List Entry) (keys : List Key) (shows : Key → Option (Version × Object)) : Type 0 where
  pub changed : keys ≡ written_keys h
  pub shown : (key : Key) → shows key ≡ kept (stored key h)

-- what a write leaves, without its version
abbrev pub object_of : Option (Version × Object) → Option Object
object_of None = None
object_of (Some x) = Some x.1

-- it has the version that the next write gets
abbrev pub IsNext : ℕ → Option (Version × Object) → Type 0
IsNext n None = Unit {0}
IsNext n (Some x) = x.0.0 ≡ n
