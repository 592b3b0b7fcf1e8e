-- When a node was last heard of, and marks, read from the history. Source: the node lifecycle controller of Kubernetes, its monitor of
-- node health; the profile.
use Rattle.std.specs.Prelude.{ℕ, ◌+◌, ◌-◌, ◌*◌, ◌==◌, ◌&&◌, ◌||◌, not, nat_lt, nat_le, Bool, true, false, cond}
use Rattle.std.specs.Prelude.{List, [], ◌∷◌, count_by, Option, Some, None}
use Rattle.kube_base.specs.declared.fixed.TheConstants.{NODE_STATUS_UNKNOWN, NODE_STATUS_NEVER_UPDATED}
use Rattle.kube_base.specs.declared.numbers.Version.{Version}
use Rattle.kube_base.specs.declared.numbers.Wall.{Wall}
use Rattle.kube_objects.specs.declared.deed.Actor.{Actor}
use Rattle.kube_objects.specs.declared.lease.Lease.{Lease}
use Rattle.kube_objects.specs.declared.node.Node.{Node}
use Rattle.kube_objects.specs.declared.node.Ready.{Ready}
use Rattle.kube_objects.specs.declared.node.ReadyStatus.{ReadyStatus}
use Rattle.kube_objects.specs.declared.node.ReadyStatus.TheVariants as ready
use Rattle.kube_objects.specs.declared.pod.Pod.{Pod}
use Rattle.kube_objects.specs.declared.rules.ProbeRule.{ProbeRule}
use Rattle.kube_objects.specs.declared.rules.ProbeRule.TheVariants.{Run, Record}
use Rattle.kube_objects.specs.Clocks.{local, wall, whole_second}
use Rattle.kube_objects.specs.Document.{Doc, of_millis}
use Rattle.kube_objects.specs.Entry.{Entry, Identity, Fact, Ticks, Pass, Mark, Mode}
use Rattle.kube_objects.specs.Identities.{is_by}
use Rattle.kube_objects.specs.Modes.{is_ready}
use Rattle.kube_objects.specs.Newest.{newest, when, only_if, join, has, or_else, or_zero}
use Rattle.kube_objects.specs.Seen.{is_accepted, seen_node, seen_lease, seen_pod, pod_keys}

-- ---- passes

abbrev pub pass_says : Identity → ℕ → Actor → Fact → Option ℕ
pass_says q k who (Ticks Pass) = when (is_by q who) k
pass_says q k who _ = None

-- the beat of the term's last pass
abbrev pub last_pass : Identity → List Entry → Option ℕ
last_pass q = newest (λ e h. pass_says q e.beat e.actor e.fact)

abbrev pub is_of_beat : ℕ → Option ℕ → Bool
is_of_beat k None = false
is_of_beat k (Some last) = last == k

abbrev pub is_pass : Identity → Actor → Fact → Bool
is_pass q who (Ticks Pass) = is_by q who
is_pass q who _ = false

-- whether the term's last pass is that of beat k
abbrev pub is_pass_tick : ℕ → Identity → List Entry → Bool
is_pass_tick k q h = is_of_beat k (last_pass q h)

-- what a term's passes say; f reads the history before a pass
abbrev pub at_pass : {A : Type 0} → Identity → (List Entry → Option A) → Actor → Fact → List Entry → Option A
at_pass q f who (Ticks Pass) h = only_if (is_by q who) (f h)
at_pass q f who _ h = None

-- the history before the term's last pass
abbrev pub before_pass : Identity → List Entry → List Entry
before_pass q h = or_else [] (newest (λ e T. at_pass q (λ T. Some T) e.actor e.fact T) h)

-- ---- the work of a pass: it sets the pods of the nodes that it marks not ready, one after the other, within a limit of requests.
-- Source: the node lifecycle controller of Kubernetes, `MarkPodsNotReady`; a client's limit

abbrev pub marked_name : Identity → Actor → Fact → Option ℕ
marked_name q who (Ticks (Mark node given written tried)) = when (is_by q who && is_accepted tried) node
marked_name q who _ = None

abbrev pub and_name : Option ℕ → List ℕ → List ℕ
and_name None names = names
and_name (Some name) names = name ∷ names

-- the nodes that the term's last pass marked, accepted
abbrev pub marked_since : Identity → List Entry → List ℕ
marked_since q [] = []
marked_since q (e ∷ h) =
    elim (is_pass q e.actor e.fact) [ true ↦ [] | false ↦ and_name (marked_name q e.actor e.fact) (marked_since q h) ]

abbrev pub is_on : ℕ → Option (Version × Pod) → Bool
is_on name None = false
is_on name (Some x) = x.1.node == name

-- how many pods the cache has on a node
abbrev pub pods_on : Identity → ℕ → List Entry → ℕ
pods_on q name h = count_by (λ pod. is_on name (seen_pod q pod h)) (pod_keys h)

abbrev pub is_ready_node : Option (Version × Node) → Bool
is_ready_node None = false
is_ready_node (Some x) = is_ready x.1.ready

-- and how many on those of some nodes that were ready
abbrev pub pods_to_write : Identity → List ℕ → List Entry → ℕ
pods_to_write q [] h = 0
pods_to_write q (name ∷ names) h = cond (is_ready_node (seen_node q name h)) (pods_on q name h) 0 + pods_to_write q names h

-- a time in milliseconds for each pod but for the first ones
abbrev pub work_of : (millis burst pods : ℕ) → ℕ
work_of millis burst pods = of_millis (millis * (pods - burst))

abbrev pub pass_work : Doc → Identity → List Entry → ℕ
pass_work doc q h =
    work_of doc.settings.rules.ready_millis doc.settings.rules.ready_burst (pods_to_write q (marked_since q h) (before_pass q h))

-- how long after a term's last pass the next one is due; writes that take no time aren't counted
abbrev pub pass_period : Doc → Identity → List Entry → ℕ
pass_period doc q h =
    elim (doc.settings.rules.ready_millis == 0) [
      | true ↦ of_millis doc.settings.monitor_period_millis
      | false ↦ of_millis doc.settings.monitor_period_millis + pass_work doc q h
    ]

abbrev pub is_after_pass : Doc → ℕ → Identity → ℕ → Option ℕ → Bool
is_after_pass doc k q period None = true
is_after_pass doc k q period (Some last) = nat_le (local doc q.process last + period) (local doc q.process k)

-- whether a synced tick has a pass: the term's first, and then one a monitor period after the last, and after that pass's work
abbrev pub is_pass_due : Doc → ℕ → Identity → List Entry → Bool
is_pass_due doc k q h = is_after_pass doc k q (pass_period doc q h) (last_pass q h)

-- ---- the times that tell of a node

abbrev pub ready_heartbeat : Option Ready → Option Wall
ready_heartbeat None = None
ready_heartbeat (Some r) = r.heartbeat

abbrev pub node_heartbeat : Option (Version × Node) → Option Wall
node_heartbeat None = None
node_heartbeat (Some x) = ready_heartbeat x.1.ready

abbrev pub lease_renewal : Option (Version × Lease) → Option Wall
lease_renewal None = None
lease_renewal (Some x) = x.1.renewed

-- the heartbeat of a node's Ready condition, and the renew time of its Lease, as the cache shows them
abbrev pub heartbeat : Identity → ℕ → List Entry → Option Wall
heartbeat q name h = node_heartbeat (seen_node q name h)

abbrev pub renewal : Identity → ℕ → List Entry → Option Wall
renewal q name h = lease_renewal (seen_lease q name h)

-- what a pass leaves kept: nothing where it doesn't find the node, and as before where the time is missing
abbrev pub keeps : Bool → Option Wall → Option (Option Wall)
keeps false at = Some None
keeps true None = None
keeps true (Some at) = Some (Some at)

abbrev pub is_found : Identity → ℕ → List Entry → Bool
is_found q name h = has (seen_node q name h)

-- whether the last pass found the node
abbrev pub is_known : Identity → ℕ → List Entry → Bool
is_known q name h = or_else false (newest (λ e T. at_pass q (λ T. Some (is_found q name T)) e.actor e.fact T) h)

abbrev pub kept_heartbeat : Identity → ℕ → List Entry → Option Wall
kept_heartbeat q name h = join (newest (λ e T. at_pass q (λ T. keeps (is_found q name T) (heartbeat q name T)) e.actor e.fact T) h)

abbrev pub kept_renewal : Identity → ℕ → List Entry → Option Wall
kept_renewal q name h = join (newest (λ e T. at_pass q (λ T. keeps (is_found q name T) (renewal q name T)) e.actor e.fact T) h)

-- ---- the probe

abbrev pub is_at : Wall → Option Wall → Bool
is_at at None = false
is_at at (Some other) = other.0 == at.0

-- a heartbeat that isn't the kept one is news, also an earlier one
abbrev pub is_news : Option Wall → Option Wall → Bool
is_news None kept = false
is_news (Some at) kept = not (is_at at kept)

-- a renew time is news where it is later than the kept one, or none is kept
abbrev pub is_later : Option Wall → Option Wall → Bool
is_later None kept = false
is_later (Some at) None = true
is_later (Some at) (Some kept) = nat_lt kept.0 at.0

-- whether a pass after this history hears of a node
abbrev pub hears : Identity → ℕ → List Entry → Bool
hears q name h =
    not (is_known q name h)
    || is_news (heartbeat q name h) (kept_heartbeat q name h)
    || is_later (renewal q name h) (kept_renewal q name h)

-- a pass that hears of the node, and the end of the all-Full mode
abbrev pub is_probe : Identity → ℕ → Actor → Fact → List Entry → Bool
is_probe q name who (Ticks Pass) h = is_by q who && hears q name h
is_probe q name who (Ticks (Mode false)) h = is_by q who
is_probe q name who _ h = false

-- the beat at which a node was last heard of
abbrev pub probe : Identity → ℕ → List Entry → ℕ
probe q name h = or_zero (newest (λ e T. when (is_probe q name e.actor e.fact T) e.beat) h)

-- ---- the probe by what the passes keep of a node. Source: the node lifecycle controller of Kubernetes 1.20, `tryUpdateNodeHealth`

abbrev pub found_ready : Option (Version × Node) → Option (Option Ready)
found_ready None = None
found_ready (Some x) = Some x.1.ready

abbrev pub leaves_ready : Identity → ℕ → Actor → Fact → List Entry → Option (Option Ready)
leaves_ready q name who (Ticks Pass) h = only_if (is_by q who) (found_ready (seen_node q name h))
leaves_ready q name who (Ticks (Mark node given written tried)) h = when ((node == name) && (is_by q who && is_accepted tried)) written.ready
leaves_ready q name who _ h = None

-- Ready as the marks of the last pass left it that found the node
abbrev pub left_ready : Identity → ℕ → List Entry → Option (Option Ready)
left_ready q name h = newest (λ e T. leaves_ready q name e.actor e.fact T) h

abbrev pub is_same_time : Option Wall → Option Wall → Bool
is_same_time None other = not (has other)
is_same_time (Some at) other = is_at at other

-- Ready is there and wasn't, or was and isn't, or its heartbeat isn't what it was
abbrev pub is_changed : (was is : Option Ready) → Bool
is_changed None None = false
is_changed None (Some r) = true
is_changed (Some r) None = true
is_changed (Some r) (Some s) = not (is_same_time r.heartbeat s.heartbeat)

abbrev pub renews_over : Option (Option Ready) → Option (Option Ready) → Bool
renews_over left None = false
renews_over None (Some is) = true
renews_over (Some was) (Some is) = is_changed was is

-- whether a pass after this history renews a node: it finds it first, or its Ready or heartbeat changed
abbrev pub renews : Identity → ℕ → List Entry → Bool
renews q name h = renews_over (left_ready q name h) (found_ready (seen_node q name h))

abbrev pub is_later_renewal : Option Wall → Option Wall → Bool
is_later_renewal None other = false
is_later_renewal (Some at) None = false
is_later_renewal (Some at) (Some other) = nat_lt at.0 other.0

-- whether a pass counts the Lease that it sees, by the one that is kept
abbrev pub counts_lease : (kept seen : Option Lease) → Bool
counts_lease kept None = false
counts_lease None (Some lease) = true
counts_lease (Some old) (Some lease) = is_later_renewal old.renewed lease.renewed

abbrev pub lease_of : Option (Version × Lease) → Option Lease
lease_of None = None
lease_of (Some x) = Some x.1

-- a pass keeps a Lease that it counts; one that renews the node and doesn't count keeps none
abbrev pub keeps_lease : (counts renews : Bool) → Option Lease → Option (Option Lease)
keeps_lease true renews seen = Some seen
keeps_lease false true seen = Some None
keeps_lease false false seen = None

abbrev pub lease_says : Identity → ℕ → Actor → Fact → Option Lease → List Entry → Option (Option Lease)
lease_says q name who (Ticks Pass) kept h =
    elim (is_by q who && is_found q name h) [
      | true ↦ keeps_lease (counts_lease kept (lease_of (seen_lease q name h))) (renews q name h) (lease_of (seen_lease q name h))
      | false ↦ None
    ]
lease_says q name who (Ticks (Mark node given written tried)) kept h =
    when ((node == name) && (is_by q who && is_accepted tried)) (lease_of (seen_lease q name h))
lease_says q name who _ kept h = None

-- kept is the Lease that was kept before the entry
abbrev pub keeps_on : Identity → ℕ → Actor → Fact → List Entry → Option Lease → Option Lease
keeps_on q name who fact h kept = or_else kept (lease_says q name who fact kept h)

-- a node's Lease as the passes keep it: that of the last one that counted or marked
abbrev pub kept_lease : Identity → ℕ → List Entry → Option Lease
kept_lease q name [] = None
kept_lease q name (e ∷ h) = keeps_on q name e.actor e.fact h (kept_lease q name h)

abbrev pub counts : Identity → ℕ → List Entry → Bool
counts q name h = counts_lease (kept_lease q name h) (lease_of (seen_lease q name h))

-- a pass that finds the node and renews it or counts its Lease, and one that found it and ended the all-Full mode
abbrev pub is_recorded : Identity → ℕ → Actor → Fact → List Entry → Bool
is_recorded q name who (Ticks Pass) h = is_by q who && (is_found q name h && (renews q name h || counts q name h))
is_recorded q name who (Ticks (Mode false)) h = is_by q who && is_found q name h
is_recorded q name who _ h = false

abbrev pub recorded : Identity → ℕ → List Entry → ℕ
recorded q name h = or_zero (newest (λ e T. when (is_recorded q name e.actor e.fact T) e.beat) h)

-- the beat from which a node's silence counts
abbrev pub heard : ProbeRule → Identity → ℕ → List Entry → ℕ
heard Run q name h = probe q name h
heard Record q name h = recorded q name h

-- ---- marks

-- Ready as a mark leaves it at a whole second
abbrev pub marked : ℕ → Option Ready → Ready
marked at None = record {
  status = ready.Unknown;
  reason = NODE_STATUS_NEVER_UPDATED;
  heartbeat = None;
  transition = Some (record { 0 = at });
}
marked at (Some r) = record {
  status = ready.Unknown;
  reason = NODE_STATUS_UNKNOWN;
  heartbeat = r.heartbeat;
  transition = Some (record { 0 = at });
}

abbrev pub is_unknown_status : ReadyStatus → Bool
is_unknown_status ready.Unknown = true
is_unknown_status _ = false

abbrev pub is_unknown : Option Ready → Bool
is_unknown None = false
is_unknown (Some r) = is_unknown_status r.status

abbrev pub grace_of : Doc → Option Ready → ℕ
grace_of doc None = of_millis doc.settings.startup_grace_millis
grace_of doc (Some r) = of_millis doc.settings.grace_period_millis

-- whether a node wasn't heard of for longer than its grace
abbrev pub is_silent : Doc → Identity → ℕ → ℕ → Option Ready → List Entry → Bool
is_silent doc q k name r h = nat_lt (local doc q.process (heard doc.settings.rules.probe q name h) + grace_of doc r) (local doc q.process k)

abbrev pub with_mark : ℕ → Node → Node
with_mark at node = record node { ready = Some (marked at node.ready) }

-- the node that a mark writes; h has the pass
abbrev pub mark_of : Doc → Identity → ℕ → ℕ → Node → List Entry → Option Node
mark_of doc q k name node h =
    when (not (is_unknown node.ready) && is_silent doc q k name node.ready h) (with_mark (whole_second (wall doc q.process k)) node)
