-- How many pods a tick may look at, read from the history.
use Rattle.std.specs.Prelude.{ℕ, ◌+◌, ◌*◌, Bool, true, false, cond, List, [], ◌∷◌, length, count_by, Option, Some, None}
use Rattle.kube_objects.specs.declared.key.Key.{Key}
use Rattle.kube_objects.specs.declared.key.Kind.{Kind}
use Rattle.kube_objects.specs.declared.key.Kind.TheVariants as kind
use Rattle.kube_objects.specs.declared.rules.EvictRule.{EvictRule}
use Rattle.kube_objects.specs.declared.rules.EvictRule.TheVariants as evictions
use Rattle.kube_objects.specs.Document.{Doc}
use Rattle.kube_objects.specs.Entry.{Entry, Identity, Fact, Ticks, Tick, Sync, Delete}
use Rattle.kube_objects.specs.Seen.{seen_pod, pod_keys}
use Rattle.kube_objects.specs.Stored.{Write, tick_write}
use Rattle.kube_objects.specs.Tainting.{is_tick_of}
use Rattle.tick_laws.specs.Since.{keys_since}
use Rattle.tick_laws.specs.ToJudge.{has_new_taints, is_back, is_to_judge}
use Rattle.watch_cache.specs.Kept.{is_on}

-- how many pods are seen on the node of that name
abbrev pub pods_on : Identity → ℕ → List Entry → ℕ
pods_on q name h = count_by (λ key. is_on name (seen_pod q key h)) (pod_keys h)

-- the pods that a write of a key may make due, as they are seen after it: of a node those on it, where it passes a test
abbrev pub kind_cost : Identity → (ℕ → Bool) → List Entry → ℕ → Kind → ℕ
kind_cost q test h name kind.Node = cond (test name) (pods_on q name h) 0
kind_cost q test h name kind.Lease = 0
kind_cost q test h name kind.Pod = 1

abbrev pub write_cost : Identity → (ℕ → Bool) → List Entry → Key → ℕ
write_cost q test h key = kind_cost q test h key.name key.kind

abbrev pub write_costs : Identity → (ℕ → Bool) → List Entry → List Key → ℕ
write_costs q test h [] = 0
write_costs q test h (key ∷ keys) = write_cost q test h key + write_costs q test h keys

-- h is the history before the entry, and g the one with it
abbrev pub own_cost : Identity → List Entry → List Entry → Option Write → ℕ
own_cost q h g None = 0
own_cost q h g (Some write) = 2 * write_cost q (has_new_taints q h g) g write.0

abbrev pub entry_cost : Identity → List Entry → List Entry → Tick → ℕ
entry_cost q h g Sync = length (keys_since q h) + 2 * write_costs q (is_to_judge q h g) g (keys_since q h)
entry_cost q h g (Delete pod given node_given due tried) = 2 + own_cost q h g (tick_write (Delete pod given node_given due tried))
entry_cost q h g t = own_cost q h g (tick_write t)

abbrev pub fact_cost : Identity → List Entry → List Entry → Fact → ℕ
fact_cost q h g (Ticks t) = entry_cost q h g t
fact_cost q h g _ = 0

-- of the entries that the identity's tick at a beat has made so far: one for each write that a sync takes in, two for each delete,
-- and two for each pod that such a write, or an accepted write of the tick's own, may make due. A node makes pods due where its
-- taints are others than were seen, and one that a sync takes in also where a key was stale. So a mark, which leaves the taints as
-- they were, makes none
abbrev pub tick_cost : Identity → ℕ → List Entry → ℕ
tick_cost q k [] = 0
tick_cost q k (e ∷ h) =
    elim (is_tick_of q k e.beat e.actor e.fact) [ true ↦ fact_cost q h (e ∷ h) e.fact + tick_cost q k h | false ↦ 0 ]

-- ---- pods on nodes that a sync sees anew

-- of the nodes among these keys that pass a test, the pods that are seen on them
abbrev pub back_kind : Identity → (ℕ → Bool) → List Entry → ℕ → Kind → ℕ
back_kind q test h name kind.Node = cond (test name) (pods_on q name h) 0
back_kind q test h name kind.Lease = 0
back_kind q test h name kind.Pod = 0

abbrev pub back_costs : Identity → (ℕ → Bool) → List Entry → List Key → ℕ
back_costs q test h [] = 0
back_costs q test h (key ∷ keys) = back_kind q test h key.name key.kind + back_costs q test h keys

-- h is the history before the sync, and g the one with it
abbrev pub back_by : EvictRule → Identity → List Entry → List Entry → ℕ
back_by evictions.Added q h g = 0
back_by evictions.Seen q h g = 2 * back_costs q (is_back evictions.Seen q h g) g (keys_since q h)

-- two for each of them, where pods are due by what is seen
abbrev pub pods_back : Doc → Identity → List Entry → List Entry → ℕ
pods_back doc q h g = back_by doc.settings.rules.evict_from q h g
