-- What a term judges of each node and pod, read from the history. Source: the node lifecycle controller of Kubernetes and its taint
-- eviction controller; the order of a tick's steps is the profile's.
use Rattle.std.specs.Prelude.{ℕ, nat_le, not, ◌&&◌, ◌||◌, Bool, true, false, List, Option, Some, None}
use Rattle.std.specs.List.{list_any}
use Rattle.kube_base.specs.declared.numbers.Version.{Version}
use Rattle.kube_objects.specs.declared.key.Key.{Key}
use Rattle.kube_objects.specs.declared.node.Node.{Node}
use Rattle.kube_objects.specs.declared.object.Object.{Object}
use Rattle.kube_objects.specs.declared.pod.Due.{Due}
use Rattle.kube_objects.specs.declared.pod.Due.TheVariants.{Never, At}
use Rattle.kube_objects.specs.declared.pod.Pod.{Pod}
use Rattle.kube_objects.specs.declared.rules.EvictRule.{EvictRule}
use Rattle.kube_objects.specs.declared.rules.EvictRule.TheVariants as evictions
use Rattle.kube_objects.specs.Document.{Doc}
use Rattle.kube_objects.specs.Entry.{Entry, Identity, Place}
use Rattle.kube_objects.specs.Judgement.{Passed, has_turned_on, is_crossed, is_healthy, is_new, judged}
use Rattle.kube_objects.specs.Modes.{mode}
use Rattle.kube_objects.specs.Seen.{seen, seen_node, seen_pod, is_stale, is_pod}
use Rattle.kube_objects.specs.Sightings.{sighted_due}
use Rattle.kube_objects.specs.Stored.{node_key}
use Rattle.kube_objects.specs.Tainting.{Wants, Nothing, Wanted, Whatever, wants, has_condition, is_opposite, waits, queued}
use Rattle.kube_objects.specs.Tick.{is_stripped}
use Rattle.kube_objects.specs.Tolerations.{due}
use Rattle.watch_cache.specs.Kept.{kept}

-- version and content of what the cache has at a key
abbrev pub shown : Identity → Key → List Entry → Option (Version × Object)
shown q key h = kept (seen q key h)

-- ---- the nodes that a tick tries to untaint or swap

abbrev pub cleans : Wants → Node → Bool
cleans Nothing node = has_condition node
cleans (Wanted wanted) node = list_any (is_opposite wanted) node.taints
cleans Whatever node = false

abbrev pub dirty_as : Bool → Bool → Option (Version × Node) → Bool
dirty_as true on x = false
dirty_as false on None = false
dirty_as false on (Some x) = cleans (wants on x.1) x.1

-- whether the next tick untaints or swaps the node, if nothing changes before
abbrev pub is_dirty : Identity → ℕ → List Entry → Bool
is_dirty q name h = dirty_as (is_stale q (node_key name) h) (mode q h) (seen_node q name h)

-- the same of the tick that the history is in: one that its pass first sees is stripped, where the rule says so
abbrev pub is_to_clean : Doc → ℕ → Identity → ℕ → List Entry → Bool
is_to_clean doc k q name h =
    dirty_as (is_stale q (node_key name) h) (is_stripped doc.settings.rules.first_sight k q name h || mode q h) (seen_node q name h)

-- ---- and those that the tick of a pass tries to untaint or swap, where nodes are judged at passes alone

abbrev pub tries : Doc → Identity → ℕ → Passed → Wants → Node → Bool
tries doc q name x wants node =
    is_crossed wants node || (has_condition node && (is_new doc q name x.before || is_healthy wants || has_turned_on q x))

-- was is the node before the pass's marks
abbrev pub tried_as : Doc → Identity → ℕ → Passed → Bool → Option (Version × Node) → Option (Version × Node) → Bool
tried_as doc q name x true was is = false
tried_as doc q name x false None is = false
tried_as doc q name x false (Some y) None = false
tried_as doc q name x false (Some y) (Some z) = tries doc q name x (judged q name x y.1) z.1

abbrev pub is_to_try : Doc → Identity → Passed → ℕ → List Entry → Bool
is_to_try doc q x name h = tried_as doc q name x (is_stale q (node_key name) h) (seen_node q name x.before) (seen_node q name h)

-- ---- when a pod is due, as the term sees it

abbrev pub due_on : Pod → Option (Version × Node) → Due
due_on pod None = Never
due_on pod (Some y) = due pod y.1

abbrev pub due_as : Identity → Bool → Option (Version × Pod) → List Entry → Due
due_as q true x h = Never
due_as q false None h = Never
due_as q false (Some x) h = due_on x.1 (seen_node q x.1.node h)

-- only a pod's key is ever due, and never a stale one
abbrev pub seen_due : Identity → Key → List Entry → Due
seen_due q key h = due_as q (not (is_pod key.kind) || is_stale q key h) (seen_pod q key h) h

-- the same of a pod that is due by what the term has seen of it
abbrev pub sighted_as : Bool → Option (Version × Pod) → Due → Due
sighted_as true x due = Never
sighted_as false None due = Never
sighted_as false (Some x) due = due

abbrev pub due_by : EvictRule → Doc → Identity → Key → List Entry → Due
due_by evictions.Added doc q key h = seen_due q key h
due_by evictions.Seen doc q key h = sighted_as (not (is_pod key.kind) || is_stale q key h) (seen_pod q key h) (sighted_due doc q key h)

-- by the document's rule
abbrev pub term_due : Doc → Identity → Key → List Entry → Due
term_due doc q key h = due_by doc.settings.rules.evict_from doc q key h

abbrev pub is_by_now : ℕ → Due → Bool
is_by_now now Never = false
is_by_now now (At at) = nat_le at now

-- ---- since when a node waits in a zone

abbrev pub key_if : Option ℕ → ℕ → Option ℕ
key_if None at = None
key_if (Some wanted) at = Some at

-- the beat by which a node has its place in the zone's queue, where it waits there
abbrev pub waits_since : Identity → Place → ℕ → List Entry → Option ℕ
waits_since q place name h = key_if (waits q place name h) (queued q place name h)
