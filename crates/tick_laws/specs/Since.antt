-- What was written since a term's last sync.
use Rattle.std.specs.Prelude.{◌≡◌, ◌||◌, Bool, true, false, cond, List, [], ◌∷◌, Option, Some, None}
use Rattle.kube_base.specs.declared.numbers.Version.{Version}
use Rattle.kube_objects.specs.declared.deed.Actor.{Actor}
use Rattle.kube_objects.specs.declared.key.Key.{Key}
use Rattle.kube_objects.specs.declared.pod.Pod.{Pod}
use Rattle.kube_objects.specs.Entry.{Entry, Identity, Fact, Ticks, Sync}
use Rattle.kube_objects.specs.Feeds.{is_among}
use Rattle.kube_objects.specs.Identities.{is_by}
use Rattle.kube_objects.specs.Seen.{seen_pod, is_stale}
use Rattle.kube_objects.specs.Stored.{write_of, node_key}
use Rattle.watch_cache.specs.Stands.{and_key}

abbrev pub is_sync_of : Identity → Actor → Fact → Bool
is_sync_of q who (Ticks Sync) = is_by q who
is_sync_of q who _ = false

-- the key of each accepted write since the last sync, or of each where there was none, the oldest first
abbrev pub keys_since : Identity → List Entry → List Key
keys_since q [] = []
keys_since q (e ∷ h) = cond (is_sync_of q e.actor e.fact) [] (and_key (write_of e.fact) (keys_since q h))

abbrev pub is_node_among : List Key → Option (Version × Pod) → Bool
is_node_among keys None = false
is_node_among keys (Some x) = is_among keys (node_key x.1.node)

-- since the last sync the key was written, or the node that its pod is seen on
abbrev pub IsReached : Identity → List Entry → Key → Type 0
IsReached q h key = (is_among (keys_since q h) key || is_node_among (keys_since q h) (seen_pod q key h)) ≡ true

-- that holds of each stale key
abbrev pub AreReached : Identity → List Entry → Type 0
AreReached q h = (key : Key) → is_stale q key h ≡ true → IsReached q h key
