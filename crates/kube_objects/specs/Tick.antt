-- One tick of a controller that acts as the leader: what it adds to the history, step by step.
-- Source: the node lifecycle controller of Kubernetes and its taint eviction controller; the order of the steps is the profile's.
use Rattle.std.specs.Prelude.{ℕ, ◌+◌, ◌-◌, ◌*◌, ◌==◌, ◌&&◌, ◌||◌, if◌then◌else◌, not, nat_le, Bool, true, false, cond}
use Rattle.std.specs.Prelude.{List, [], ◌∷◌, ◌++◌, map, filter, Option, Some, None}
use Rattle.std.specs.List.{list_any}
use Rattle.kube_base.specs.declared.numbers.Version.{Version}
use Rattle.kube_objects.specs.declared.deed.Actor.{Actor}
use Rattle.kube_objects.specs.declared.key.Key.{Key}
use Rattle.kube_objects.specs.declared.node.Effect.TheVariants.{NoExecute}
use Rattle.kube_objects.specs.declared.node.Node.{Node}
use Rattle.kube_objects.specs.declared.node.Taint.{Taint}
use Rattle.kube_objects.specs.declared.node.ZoneState.{ZoneState}
use Rattle.kube_objects.specs.declared.pod.Due.{Due}
use Rattle.kube_objects.specs.declared.pod.Due.TheVariants.{Never, At}
use Rattle.kube_objects.specs.declared.pod.Pod.{Pod}
use Rattle.kube_objects.specs.declared.rules.EvictRule.{EvictRule}
use Rattle.kube_objects.specs.declared.rules.EvictRule.TheVariants as evictions
use Rattle.kube_objects.specs.declared.rules.JudgeRule.{JudgeRule}
use Rattle.kube_objects.specs.declared.rules.JudgeRule.TheVariants as judges
use Rattle.kube_objects.specs.declared.rules.SightRule.{SightRule}
use Rattle.kube_objects.specs.declared.rules.SightRule.TheVariants.{Keep, Strip}
use Rattle.kube_objects.specs.Clocks.{local, wall, whole_second}
use Rattle.kube_objects.specs.Deletes.{no_version}
use Rattle.kube_objects.specs.Document.{Doc, of_millis}
use Rattle.kube_objects.specs.Elector.{led_at}
use Rattle.kube_objects.specs.Entry.{Entry, Identity, Place, Fact, Ticks, Tick, Sync, Pass, Mark, Mode, Zone, Untaint, Swap, Head, Delete, Skip, entry}
use Rattle.kube_objects.specs.Health.{is_pass_due, is_pass_tick, is_known, before_pass, mark_of}
use Rattle.kube_objects.specs.Identities.{is_by}
use Rattle.kube_objects.specs.InForce.{watches}
use Rattle.kube_objects.specs.Judgement.{Passed, passes, has_turned_on, judged, is_new, is_healthy, is_crossed, queue}
use Rattle.kube_objects.specs.Modes.{nodes, places, state_in, rate_in, all_full, mode}
use Rattle.kube_objects.specs.Newest.{has}
use Rattle.kube_objects.specs.Seen.{seen_node, seen_pod, is_fresh, is_synced, is_stale, node_names, pod_keys}
use Rattle.kube_objects.specs.Sightings.{sighted_due}
use Rattle.kube_objects.specs.Stored.{node_key}
use Rattle.kube_objects.specs.Tainting.{Wants, Nothing, Wanted, Whatever, wants, wants_ready, is_condition, has_condition, is_wanted, is_opposite, waits, Queued, head_of}
use Rattle.kube_objects.specs.Tokens.{rated, is_rated, has_token, token_size}
use Rattle.kube_objects.specs.Tolerations.{due}
use Rattle.kube_objects.specs.Tries.{try_node, try_delete, try_delete_alone}

-- an entry of a tick
abbrev pub add : ℕ → Identity → Tick → List Entry → List Entry
add k q tick h = entry k 4 q (Ticks tick) ∷ h

-- a step for each of some things, one after the other
abbrev pub for_each : {A : Type 0} → (A → List Entry → List Entry) → List A → List Entry → List Entry
for_each f [] h = h
for_each f (x ∷ xs) h = for_each f xs (f x h)

-- ---- the sync

-- whether a term has waited so long since its lead as its caches take to fill at first
abbrev pub has_settled : Doc → ℕ → Identity → List Entry → Bool
has_settled doc k q h =
    (doc.settings.rules.first_sync_millis == 0)
    || nat_le (local doc q.process (led_at q h) + of_millis doc.settings.rules.first_sync_millis) (local doc q.process k)

-- the reading from which it has, where that takes time
abbrev pub settles_at : Doc → Identity → List Entry → Option ℕ
settles_at doc q h =
    cond (doc.settings.rules.first_sync_millis == 0) None
    (Some (local doc q.process (led_at q h) + of_millis doc.settings.rules.first_sync_millis))

-- where the watch is on and the cache isn't up to date
abbrev pub sync : Doc → ℕ → Identity → List Entry → List Entry
sync doc k q h = if has_settled doc k q h && (watches doc q.process h && not (is_fresh q h)) then add k q Sync h else h

-- ---- the pass: marks, the mode, the zones

abbrev pub mark_as : ℕ → Identity → ℕ → Version → Option Node → List Entry → List Entry
mark_as k q name given None h = h
mark_as k q name given (Some written) h = add k q (Mark name given written (try_node q name given h)) h

abbrev pub mark_seen : Doc → ℕ → Identity → ℕ → Option (Version × Node) → List Entry → List Entry
mark_seen doc k q name None h = h
mark_seen doc k q name (Some x) h = mark_as k q name x.0 (mark_of doc q k name x.1 h) h

abbrev pub mark : Doc → ℕ → Identity → ℕ → List Entry → List Entry
mark doc k q name h = mark_seen doc k q name (seen_node q name h) h

abbrev pub is_same_mode : Bool → Bool → Bool
is_same_mode true on = on
is_same_mode false on = not on

-- on says whether the mode is on after this pass; it is an entry where that is a change
abbrev pub mode_as : ℕ → Identity → Bool → List Entry → List Entry
mode_as k q on h = if is_same_mode on (mode q h) then h else add k q (Mode on) h

abbrev pub set_mode : Doc → ℕ → Identity → List Entry → List Entry
set_mode doc k q h = mode_as k q (all_full doc (nodes q h)) h

-- an entry where the zone is new since the last pass, or its state or rate is
abbrev pub zone_as : ℕ → Identity → Place → ZoneState → ℕ → List Entry → List Entry
zone_as k q place state rate h = if is_rated state rate (rated q place h) then h else add k q (Zone place state rate) h

abbrev pub zone : Doc → ℕ → Identity → List Node → Place → List Entry → List Entry
zone doc k q seen place h = zone_as k q place (state_in doc seen place) (rate_in doc (mode q h) seen place) h

abbrev pub set_zones : Doc → ℕ → Identity → List Entry → List Entry
set_zones doc k q h = for_each (zone doc k q (nodes q h)) (places (nodes q h)) h

abbrev pub marks : Doc → ℕ → Identity → List Entry → List Entry
marks doc k q h = for_each (mark doc k q) (node_names h) h

abbrev pub whole_pass : Doc → ℕ → Identity → List Entry → List Entry
whole_pass doc k q h = set_zones doc k q (set_mode doc k q (marks doc k q (add k q Pass h)))

abbrev pub pass : Doc → ℕ → Identity → List Entry → List Entry
pass doc k q h = if is_pass_due doc k q h then whole_pass doc k q h else h

-- ---- untaints and swaps

-- a taint that a tick adds: without a value, with the whole second of the controller's time of day
abbrev pub new_taint : Doc → ℕ → Identity → ℕ → Taint
new_taint doc k q wanted = record {
  key = wanted;
  value = 0;
  effect = NoExecute;
  added = Some (record { 0 = whole_second (wall doc q.process k) });
}

abbrev pub with_taints : Node → List Taint → Node
with_taints node taints = record node { taints = taints }

-- without the condition taints
abbrev pub untainted : Node → Node
untainted node = with_taints node (filter (λ taint. not (is_condition taint)) node.taints)

abbrev pub and_taint : Bool → Taint → List Taint → List Taint
and_taint true taint taints = taints
and_taint false taint taints = taints ++ taint ∷ []

-- without the opposite of the wanted taint; that one stays as it is where it is there, else it is put at the end
abbrev pub swapped : Taint → Node → Node
swapped taint node = with_taints node
    (and_taint (list_any (is_wanted taint.key) node.taints) taint (filter (λ other. not (is_opposite taint.key other)) node.taints))

abbrev pub add_untaint : ℕ → Identity → ℕ → Version → Node → List Entry → List Entry
add_untaint k q name given node h = add k q (Untaint name given (untainted node) (try_node q name given h)) h

abbrev pub add_swap : Doc → ℕ → Identity → ℕ → Version → Node → ℕ → List Entry → List Entry
add_swap doc k q name given node wanted h =
    add k q (Swap name wanted given (swapped (new_taint doc k q wanted) node) (try_node q name given h)) h

abbrev pub clean_as : Doc → ℕ → Identity → ℕ → Version → Node → Wants → List Entry → List Entry
clean_as doc k q name given node Nothing h = if has_condition node then add_untaint k q name given node h else h
clean_as doc k q name given node (Wanted wanted) h =
    if list_any (is_opposite wanted) node.taints then add_swap doc k q name given node wanted h else h
clean_as doc k q name given node Whatever h = h

-- a node that the tick's pass first sees is stripped of its condition taints
abbrev pub is_stripped : SightRule → ℕ → Identity → ℕ → List Entry → Bool
is_stripped Keep k q name h = false
is_stripped Strip k q name h = is_pass_tick k q h && not (is_known q name (before_pass q h))

-- stale says whether the node's key is
abbrev pub clean_seen : Doc → ℕ → Identity → ℕ → Bool → Option (Version × Node) → List Entry → List Entry
clean_seen doc k q name true x h = h
clean_seen doc k q name false None h = h
clean_seen doc k q name false (Some x) h =
    clean_as doc k q name x.0 x.1 (wants (is_stripped doc.settings.rules.first_sight k q name h || mode q h) x.1) h

-- a node that wants no condition taint and has one, or has the opposite of the one that it wants
abbrev pub clean : Doc → ℕ → Identity → ℕ → List Entry → List Entry
clean doc k q name h = clean_seen doc k q name (is_stale q (node_key name) h) (seen_node q name h) h

-- ---- the tries of a pass, where nodes are judged at passes alone

-- without the condition taints, and with this one
abbrev pub retainted : Taint → Node → Node
retainted taint node = with_taints node ((untainted node).taints ++ taint ∷ [])

abbrev pub crossed : Bool → Taint → Node → Node
crossed new taint node = if new then retainted taint node else swapped taint node

abbrev pub add_crossed : Doc → ℕ → Identity → ℕ → Version → Node → Bool → Wants → List Entry → List Entry
add_crossed doc k q name given node new (Wanted wanted) h =
    add k q (Swap name wanted given (crossed new (new_taint doc k q wanted) node) (try_node q name given h)) h
add_crossed doc k q name given node new _ h = h

-- a node that has the opposite of the taint that it wants is swapped, and else one that is new or True, or that meets the all-Full mode
-- as it begins, is untainted
abbrev pub judge_as : Doc → ℕ → Identity → ℕ → Passed → Version → Node → Wants → List Entry → List Entry
judge_as doc k q name x given node wants h =
    if is_crossed wants node then add_crossed doc k q name given node (is_new doc q name x.before) wants h
    else (if has_condition node && (is_new doc q name x.before || is_healthy wants || has_turned_on q x)
    then add_untaint k q name given node h else h)

-- the verdict is that of the node before the marks, and the try is of it as it is then
abbrev pub judge_seen : Doc → ℕ → Identity → ℕ → Passed → Bool → Option (Version × Node) → Option (Version × Node) → List Entry → List Entry
judge_seen doc k q name x true was is h = h
judge_seen doc k q name x false None is h = h
judge_seen doc k q name x false (Some y) None h = h
judge_seen doc k q name x false (Some y) (Some z) h = judge_as doc k q name x z.0 z.1 (judged q name x y.1) h

abbrev pub judge : Doc → ℕ → Identity → Passed → ℕ → List Entry → List Entry
judge doc k q x name h =
    judge_seen doc k q name x (is_stale q (node_key name) h) (seen_node q name x.before) (seen_node q name h) h

abbrev pub judge_all : Doc → ℕ → Identity → List Passed → List Entry → List Entry
judge_all doc k q [] h = h
judge_all doc k q (x ∷ xs) h = for_each (judge doc k q x) (node_names h) h

abbrev pub cleaned_by : JudgeRule → Doc → ℕ → Identity → List Entry → List Entry
cleaned_by judges.Tick doc k q h = for_each (clean doc k q) (node_names h) h
cleaned_by judges.Pass doc k q h = if is_pass_tick k q h then judge_all doc k q (passes q h) h else h

-- untaints and swaps: at each tick, or at that of a pass alone
abbrev pub cleaned : Doc → ℕ → Identity → List Entry → List Entry
cleaned doc k q h = cleaned_by doc.settings.rules.judge doc k q h

-- ---- queued taints

abbrev pub tainted_with : Taint → Node → Node
tainted_with taint node = with_taints node (node.taints ++ taint ∷ [])

abbrev pub taint_as : Doc → ℕ → Identity → Place → ℕ → Option ℕ → Option (Version × Node) → List Entry → List Entry
taint_as doc k q place name None x h = h
taint_as doc k q place name (Some wanted) None h = h
taint_as doc k q place name (Some wanted) (Some x) h =
    add k q (Head place name wanted x.0 (tainted_with (new_taint doc k q wanted) x.1) (try_node q name x.0 h)) h

abbrev pub taint_head : Doc → ℕ → Identity → Place → Option Queued → List Entry → List Entry
taint_head doc k q place None h = h
taint_head doc k q place (Some head) h = taint_as doc k q place head.1 (waits q place head.1 h) (seen_node q head.1 h) h

-- the first of a zone's queue
abbrev pub taint_first : Doc → ℕ → Identity → Place → List Entry → List Entry
taint_first doc k q place h = taint_head doc k q place (head_of q place (node_names h) h) h

-- where the zone's token is there
abbrev pub taint : Doc → ℕ → Identity → Place → List Entry → List Entry
taint doc k q place h = if has_token doc q k place h then taint_first doc k q place h else h

-- ---- queued pushes, where nodes are judged at passes alone

-- without the opposite of the taint; with it in its place where it is there, else at the end
abbrev pub restamped : Taint → Node → Node
restamped taint node = with_taints node
    (and_taint (list_any (is_wanted taint.key) node.taints) taint
    (map (λ other. if is_wanted taint.key other then taint else other) (filter (λ other. not (is_opposite taint.key other)) node.taints)))

abbrev pub push_as : Doc → ℕ → Identity → Place → ℕ → Version → Node → Wants → List Entry → List Entry
push_as doc k q place name given node (Wanted wanted) h =
    add k q (Head place name wanted given (restamped (new_taint doc k q wanted) node) (try_node q name given h)) h
push_as doc k q place name given node _ h = add k q (Skip place name) h

-- the taint that the node wants by its Ready as it is then, or nothing
abbrev pub push_seen : Doc → ℕ → Identity → Place → ℕ → Option (Version × Node) → List Entry → List Entry
push_seen doc k q place name None h = add k q (Skip place name) h
push_seen doc k q place name (Some x) h = push_as doc k q place name x.0 x.1 (wants_ready x.1.ready) h

abbrev pub push_first : Doc → ℕ → Identity → Place → List ℕ → List Entry → List Entry
push_first doc k q place [] h = h
push_first doc k q place (name ∷ names) h = push_seen doc k q place name (seen_node q name h) h

abbrev pub push : Doc → ℕ → Identity → Place → List Entry → List Entry
push doc k q place h = if has_token doc q k place h then push_first doc k q place (queue doc q place (passes q h)) h else h

abbrev pub tainted_by : JudgeRule → Doc → ℕ → Identity → List Entry → List Entry
tainted_by judges.Tick doc k q h = for_each (taint doc k q) (places (nodes q h)) h
tainted_by judges.Pass doc k q h = for_each (push doc k q) (places (nodes q (before_pass q h))) h

-- one queued taint in each zone, also in one whose nodes are gone since the last pass
abbrev pub tainted : Doc → ℕ → Identity → List Entry → List Entry
tainted doc k q h = tainted_by doc.settings.rules.judge doc k q h

-- ---- evictions

abbrev pub add_delete : ℕ → Identity → Key → Version → ℕ → Version → ℕ → List Entry → List Entry
add_delete k q pod given node node_given at h = add k q (Delete pod given node_given at (try_delete q pod given node node_given h)) h

-- node is the name of the pod's node
abbrev pub evict_due : Doc → ℕ → Identity → Key → Version → ℕ → Version → Due → List Entry → List Entry
evict_due doc k q pod given node node_given Never h = h
evict_due doc k q pod given node node_given (At at) h =
    if nat_le at (wall doc q.process k) then add_delete k q pod given node node_given at h else h

abbrev pub evict_on : Doc → ℕ → Identity → Key → Version × Pod → Option (Version × Node) → List Entry → List Entry
evict_on doc k q pod x None h = h
evict_on doc k q pod x (Some y) h = evict_due doc k q pod x.0 x.1.node y.0 (due x.1 y.1) h

-- stale says whether the pod's key is
abbrev pub evict_seen : Doc → ℕ → Identity → Key → Bool → Option (Version × Pod) → List Entry → List Entry
evict_seen doc k q pod true x h = h
evict_seen doc k q pod false None h = h
evict_seen doc k q pod false (Some x) h = evict_on doc k q pod x (seen_node q x.1.node h) h

-- a delete by what is seen names the pod's version alone
abbrev pub evict_sighted : Doc → ℕ → Identity → Key → Bool → Option (Version × Pod) → Due → List Entry → List Entry
evict_sighted doc k q pod false (Some x) (At at) h =
    if nat_le at (wall doc q.process k) then add k q (Delete pod x.0 no_version at (try_delete_alone q pod x.0 h)) h else h
evict_sighted doc k q pod stale x due h = h

abbrev pub evict_by : EvictRule → Doc → ℕ → Identity → Key → List Entry → List Entry
evict_by evictions.Added doc k q pod h = evict_seen doc k q pod (is_stale q pod h) (seen_pod q pod h) h
evict_by evictions.Seen doc k q pod h = evict_sighted doc k q pod (is_stale q pod h) (seen_pod q pod h) (sighted_due doc q pod h) h

-- a pod that is due, by the controller's time of day
abbrev pub evict : Doc → ℕ → Identity → Key → List Entry → List Entry
evict doc k q pod h = evict_by doc.settings.rules.evict_from doc k q pod h

-- ---- a limit of evictions: a bucket that is full when the term begins. Source: client-go, `flowcontrol`, a client's limit of requests

abbrev pub due_on_seen : Pod → Option (Version × Node) → Due
due_on_seen pod None = Never
due_on_seen pod (Some y) = due pod y.1

abbrev pub due_seen : Identity → Option (Version × Pod) → List Entry → Due
due_seen q None h = Never
due_seen q (Some x) h = due_on_seen x.1 (seen_node q x.1.node h)

abbrev pub due_by : EvictRule → Doc → Identity → Key → List Entry → Due
due_by evictions.Added doc q pod h = due_seen q (seen_pod q pod h) h
due_by evictions.Seen doc q pod h = sighted_due doc q pod h

-- pods with their dues, by due and then in order
abbrev pub insert_due : ℕ → Key → List (ℕ × Key) → List (ℕ × Key)
insert_due at pod [] = (at, pod) ∷ []
insert_due at pod (x ∷ xs) = elim (nat_le at x.0) [ true ↦ (at, pod) ∷ x ∷ xs | false ↦ x ∷ insert_due at pod xs ]

abbrev pub and_due : Key → Due → List (ℕ × Key) → List (ℕ × Key)
and_due pod Never xs = xs
and_due pod (At at) xs = insert_due at pod xs

abbrev pub dues : Doc → Identity → List Key → List Entry → List (ℕ × Key)
dues doc q [] h = []
dues doc q (pod ∷ pods) h = and_due pod (due_by doc.settings.rules.evict_from doc q pod h) (dues doc q pods h)

abbrev pub spends : Identity → Actor → Fact → Bool
spends q who (Ticks (Delete pod given node_given due tried)) = is_by q who && has tried
spends q who _ = false

-- whether a further delete is within the limit, counted from each one of the term that wasn't lost; after is how many came after these
abbrev pub has_room : Doc → Identity → ℕ → (after : ℕ) → List Entry → Bool
has_room doc q k after [] = true
has_room doc q k after (e ∷ h) =
    elim (spends q e.actor e.fact) [
      | true ↦
          nat_le ((after + 2 - doc.settings.rules.evict_burst) * token_size)
          ((local doc q.process k - local doc q.process e.beat) * doc.settings.rules.evict_rate)
          && has_room doc q k (after + 1) h
      | false ↦ has_room doc q k after h
    ]

abbrev pub evict_within : Doc → ℕ → Identity → ℕ × Key → List Entry → List Entry
evict_within doc k q x h = if has_room doc q k 0 h then evict doc k q x.1 h else h

-- without a limit in order, and with one by due
abbrev pub evicted : Doc → ℕ → Identity → List Entry → List Entry
evicted doc k q h =
    elim (doc.settings.rules.evict_burst == 0) [
      | true ↦ for_each (evict doc k q) (pod_keys h) h
      | false ↦ for_each (evict_within doc k q) (dues doc q (pod_keys h) h) h
    ]

-- ---- the tick

-- what follows the sync
abbrev pub phases : Doc → ℕ → Identity → List Entry → List Entry
phases doc k q h = evicted doc k q (tainted doc k q (cleaned doc k q (pass doc k q h)))

-- before the term's first sync a tick does no more
abbrev pub tick_after : Doc → ℕ → Identity → List Entry → List Entry
tick_after doc k q h = if is_synced q h then phases doc k q h else h

abbrev pub tick : Doc → ℕ → Identity → List Entry → List Entry
tick doc k q h = tick_after doc k q (sync doc k q h)
