-- On which changed nodes a sync judges the pods again.
use Rattle.std.specs.Prelude.{ℕ, ◌||◌, ◌&&◌, not, Bool, true, false, List, Option, Some, None}
use Rattle.kube_objects.specs.declared.deed.Actor.{Actor}
use Rattle.kube_objects.specs.declared.node.Taint.{Taint}
use Rattle.kube_objects.specs.declared.rules.EvictRule.{EvictRule}
use Rattle.kube_objects.specs.declared.rules.EvictRule.TheVariants as evictions
use Rattle.kube_objects.specs.Entry.{Entry, Identity, Fact, Ticks, Tick, Sync}
use Rattle.kube_objects.specs.Identities.{is_by}
use Rattle.kube_objects.specs.Newest.{newest, has, when, only_if, or_else}
use Rattle.kube_objects.specs.Stored.{node_key}
use Rattle.tick_laws.specs.Judged.{shown}
use Rattle.watch_cache.specs.Kept.{is_node_in}
use Rattle.watch_cache.specs.Stands.{refused_key}
use Rattle.watch_cache.specs.TaintChanges.{taints_eq, taints_in}

-- a refused untaint, swap or delete makes its key stale, and after a sync none is
abbrev pub refuses : Tick → Option Bool
refuses Sync = Some false
refuses t = when (has (refused_key t)) true

abbrev pub refusal_says : Identity → Actor → Fact → Option Bool
refusal_says q who (Ticks t) = only_if (is_by q who) (refuses t)
refusal_says q who _ = None

-- whether any key is stale
abbrev pub has_stale : Identity → List Entry → Bool
has_stale q h = or_else false (newest (λ e T. refusal_says q e.actor e.fact) h)

-- the taints that a node is seen with; none where it isn't seen
abbrev pub seen_taints : Identity → ℕ → List Entry → List Taint
seen_taints q name h = taints_in (shown q (node_key name) h)

-- whether a node is seen with other taints after an entry, before which the history is h and after which g
abbrev pub has_new_taints : Identity → List Entry → List Entry → ℕ → Bool
has_new_taints q h g name = not (taints_eq (seen_taints q name h) (seen_taints q name g))

-- whether a sync judges the pods on a changed node: where it is seen with other taints after it, or any key was stale before it
abbrev pub is_to_judge : Identity → List Entry → List Entry → ℕ → Bool
is_to_judge q h g name = has_stale q h || has_new_taints q h g name

-- whether a node is seen after an entry that wasn't before it
abbrev pub has_appeared : Identity → List Entry → List Entry → ℕ → Bool
has_appeared q h g name = not (has (shown q (node_key name) h)) && is_node_in (shown q (node_key name) g)

-- whether a sync judges the pods on a node for that alone: where they are due by what is seen
abbrev pub is_back : EvictRule → Identity → List Entry → List Entry → ℕ → Bool
is_back evictions.Added q h g name = false
is_back evictions.Seen q h g name = has_appeared q h g name
