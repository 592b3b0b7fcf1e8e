-- What a term's cache shows, read from the history: what was stored at the term's last sync, and the term's own accepted writes
-- since. Source: a client that lists and then watches, Kubernetes API concepts; that a sync takes no time is the profile's.
use Rattle.std.specs.Prelude.{ℕ, ◌&&◌, Bool, true, false, List, [], ◌∷◌, Option, Some, None}
use Rattle.std.specs.Ordering.{nat_cmp}
use Rattle.std.specs.declared.cmp.Ordering.{Ordering}
use Rattle.std.specs.declared.cmp.Ordering.TheVariants.{Less, Equal, Greater}
use Rattle.kube_base.specs.declared.numbers.Version.{Version}
use Rattle.kube_objects.specs.declared.call.Answer.{Answer}
use Rattle.kube_objects.specs.declared.call.Answer.TheVariants as answer
use Rattle.kube_objects.specs.declared.deed.Actor.{Actor}
use Rattle.kube_objects.specs.declared.key.Key.{Key}
use Rattle.kube_objects.specs.declared.key.Kind.{Kind}
use Rattle.kube_objects.specs.declared.key.Kind.TheVariants as kind
use Rattle.kube_objects.specs.declared.lease.Lease.{Lease}
use Rattle.kube_objects.specs.declared.node.Node.{Node}
use Rattle.kube_objects.specs.declared.object.Object.{Object}
use Rattle.kube_objects.specs.declared.object.Object.TheVariants as object
use Rattle.kube_objects.specs.declared.pod.Pod.{Pod}
use Rattle.kube_objects.specs.Answers.{as_kind, lease_in, node_in}
use Rattle.kube_objects.specs.Entry.{Entry, Identity, Fact, Ticks, Tick, Sync, Untaint, Swap, Delete}
use Rattle.kube_objects.specs.Identities.{is_by}
use Rattle.kube_objects.specs.Keys.{key_cmp, key_eq}
use Rattle.kube_objects.specs.Newest.{newest, when, only_if, join, has, or_else}
use Rattle.kube_objects.specs.Stored.{Held, Write, write_of, tick_write, holds, at_key, stored, node_key, node_lease}

-- ---- what the cache shows

-- a sync shows what is stored then, and an accepted write of the term's own what it wrote
abbrev pub tick_shows : Key → ℕ → Actor → Tick → List Entry → Option (Option Held)
tick_shows key k who Sync h = Some (stored key h)
tick_shows key k who tick h = holds h k who (at_key key (tick_write tick))

abbrev pub seen_says : Identity → Key → ℕ → Actor → Fact → List Entry → Option (Option Held)
seen_says q key k who (Ticks tick) h = only_if (is_by q who) (tick_shows key k who tick h)
seen_says q key k who _ h = None

-- what the cache of a term has at a key; a term is that of an identity, which leads at most once
abbrev pub seen : Identity → Key → List Entry → Option Held
seen q key h = join (newest (λ e T. seen_says q key e.beat e.actor e.fact T) h)

abbrev pub pod_in : Object → Option Pod
pod_in (object.Pod pod) = Some pod
pod_in _ = None

abbrev pub seen_node : Identity → ℕ → List Entry → Option (Version × Node)
seen_node q name h = as_kind node_in (seen q (node_key name) h)

abbrev pub seen_lease : Identity → ℕ → List Entry → Option (Version × Lease)
seen_lease q name h = as_kind lease_in (seen q (node_lease name) h)

abbrev pub seen_pod : Identity → Key → List Entry → Option (Version × Pod)
seen_pod q key h = as_kind pod_in (seen q key h)

-- ---- syncs

-- a sync makes the cache up to date, and a write of anybody makes it old, also one of the term's own
abbrev pub fresh_says : Identity → Actor → Fact → Option Bool
fresh_says q who (Ticks Sync) = when (is_by q who) true
fresh_says q who fact = when (has (write_of fact)) false

abbrev pub is_fresh : Identity → List Entry → Bool
is_fresh q h = or_else false (newest (λ e T. fresh_says q e.actor e.fact) h)

abbrev pub synced_says : Identity → Actor → Fact → Option Bool
synced_says q who (Ticks Sync) = when (is_by q who) true
synced_says q who _ = None

-- whether the term has had a sync
abbrev pub is_synced : Identity → List Entry → Bool
is_synced q h = or_else false (newest (λ e T. synced_says q e.actor e.fact) h)

-- ---- stale keys

-- a lost try isn't refused
abbrev pub is_refused : Option Answer → Bool
is_refused None = false
is_refused (Some (answer.Done version)) = false
is_refused (Some _) = true

abbrev pub is_accepted : Option Answer → Bool
is_accepted (Some (answer.Done version)) = true
is_accepted _ = false

-- a refused untaint, swap or delete makes its key stale until the next sync; a mark or a queued taint doesn't
abbrev pub stale_tick : Key → Tick → Option Bool
stale_tick key Sync = Some false
stale_tick key (Untaint node given written tried) = when (is_refused tried && key_eq (node_key node) key) true
stale_tick key (Swap node wanted given written tried) = when (is_refused tried && key_eq (node_key node) key) true
stale_tick key (Delete pod given node_given due tried) = when (is_refused tried && key_eq pod key) true
stale_tick key _ = None

abbrev pub stale_says : Identity → Key → Actor → Fact → Option Bool
stale_says q key who (Ticks tick) = only_if (is_by q who) (stale_tick key tick)
stale_says q key who _ = None

abbrev pub is_stale : Identity → Key → List Entry → Bool
is_stale q key h = or_else false (newest (λ e T. stale_says q key e.actor e.fact) h)

-- ---- the nodes and pods that were ever written, each once and in order

abbrev pub insert_once : {A : Type 0} → (A → A → Ordering) → A → List A → List A
insert_once compare x [] = x ∷ []
insert_once compare x (y ∷ ys) = elim (compare x y) [ Less ↦ x ∷ y ∷ ys | Equal ↦ y ∷ ys | Greater ↦ y ∷ insert_once compare x ys ]

abbrev pub insert_named : {A : Type 0} → (A → A → Ordering) → Option A → List A → List A
insert_named compare None ys = ys
insert_named compare (Some x) ys = insert_once compare x ys

abbrev pub named : {A : Type 0} → (Key → Option A) → Option Write → Option A
named f None = None
named f (Some write) = f write.0

-- what the written keys name, in order
abbrev pub written_names : {A : Type 0} → (A → A → Ordering) → (Key → Option A) → List Entry → List A
written_names compare f [] = []
written_names compare f (e ∷ h) = insert_named compare (named f (write_of e.fact)) (written_names compare f h)

abbrev pub node_name : Key → Option ℕ
node_name key = when (key_eq (node_key key.name) key) key.name

abbrev pub is_pod : Kind → Bool
is_pod kind.Pod = true
is_pod _ = false

abbrev pub pod_key : Key → Option Key
pod_key key = when (is_pod key.kind) key

abbrev pub node_names : List Entry → List ℕ
node_names h = written_names nat_cmp node_name h

abbrev pub pod_keys : List Entry → List Key
pod_keys h = written_names key_cmp pod_key h
