-- A sync, whether it comes or not.
use Rattle.std.proofs.Common.{◌≡◌, ◌∙◌, ℕ, ◌||◌, Bool, true, false, List, drop, refl, sym, ap}
use Rattle.std.specs.Prelude.{if◌then◌else◌}
use Rattle.kube_objects.specs.declared.key.Key.{Key}
use Rattle.kube_objects.specs.Entry.{Entry, Identity, Sync, Ticks, entry}
use Rattle.kube_objects.specs.Feeds.{is_among}
use Rattle.kube_objects.specs.Stored.{node_key}
use Rattle.kube_objects.specs.Tainting.{before_tick, waits}
use Rattle.kube_objects.specs.Tick.{add}
use Rattle.object_store.specs.Stands.{StoreStands, changed_in}
use Rattle.object_store.specs.declared.store.Store.{Store}
use Rattle.object_store.proofs.Keeps.{store-beside}
use Rattle.tick_laws.specs.Since.{keys_since}
use Rattle.tick_laws.proofs.Syncing.{sync_waits}
use Rattle.watch_cache.specs.Stands.{synced_writes}
use Rattle.term_state.specs.declared.cluster.Cluster.{Cluster}
use Rattle.term_state.specs.ClusterStands.{has_moved}
use Rattle.term_state.specs.MidTick.{IsMoved}
use Rattle.term_state.proofs.Takes.{since_is}
use Rattle.term_state.proofs.Widen.{first_none, second_none}

-- a sync is no write
pub store_synced : (k : ℕ) (q : Identity) (h : List Entry) (s : Store) (b : Bool) → StoreStands h s → StoreStands (if b then add k q Sync h else h) s
store_synced k q h s true st = store-beside h (entry k 4 q (Ticks Sync)) s st refl
store_synced k q h s false st = st

-- what the store changed from the position on was written since the last sync
pub changed_since : (q : Identity) (h : List Entry) (s : Store) (position : ℕ) → StoreStands h s → position ≡ synced_writes q h → drop position (changed_in s) ≡ keys_since q h
changed_since q h s position st is = ap (drop position) st.changes ∙ since_is q h position is

pub sync_moved : (q : Identity) (k : ℕ) (h g : List Entry) (keys : List Key) (old new : Cluster) → keys ≡ keys_since q h → g ≡ add k q Sync h → before_tick q k g ≡ before_tick q k h
    → ((n : ℕ) → has_moved new n ≡ (is_among keys (node_key n) || has_moved old n)) → IsMoved q k h old → IsMoved q k g new
sync_moved q k h g keys old new since is beneath more s n out place =
    let both = sym (more n) ∙ out in
    ap (waits q place n) is
    ∙ sync_waits q k h place n (ap (λ xs. is_among xs (node_key n)) (sym since) ∙ first_none (is_among keys (node_key n)) (has_moved old n) both)
    ∙ s n (second_none (is_among keys (node_key n)) (has_moved old n) both) place
    ∙ ap (waits q place n) (sym beneath)
