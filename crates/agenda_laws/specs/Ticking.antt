-- What a leader's tick adds something for: at once, from a reading, or from a time of day and a reading; it is read from the history alone.
-- Source: the node lifecycle controller of Kubernetes and its taint eviction controller; the profile.
use Rattle.std.specs.Prelude.{◌≡◌, ◌↔◌, ℕ, zero, suc, ◌+◌, ◌-◌, ◌*◌, ◌==◌, ◌&&◌, ◌||◌, max, not, Bool, true, false, cond, List, [], ◌∷◌, Option, Some, None}
use Rattle.std.specs.Int.{div_ceil}
use Rattle.std.specs.List.{list_any}
use Rattle.kube_base.specs.declared.numbers.Version.{Version}
use Rattle.kube_objects.specs.declared.key.Key.{Key}
use Rattle.kube_objects.specs.declared.node.Node.{Node}
use Rattle.kube_objects.specs.declared.pod.Due.{Due}
use Rattle.kube_objects.specs.declared.pod.Due.TheVariants.{Never, At}
use Rattle.kube_objects.specs.declared.pod.Pod.{Pod}
use Rattle.kube_objects.specs.declared.rules.EvictRule.{EvictRule}
use Rattle.kube_objects.specs.declared.rules.EvictRule.TheVariants as evictions
use Rattle.kube_objects.specs.declared.rules.JudgeRule.{JudgeRule}
use Rattle.kube_objects.specs.declared.rules.JudgeRule.TheVariants as judges
use Rattle.kube_objects.specs.declared.rules.SightRule.{SightRule}
use Rattle.kube_objects.specs.declared.rules.SightRule.TheVariants.{Keep, Strip}
use Rattle.kube_objects.specs.Clocks.{local, wall}
use Rattle.kube_objects.specs.Document.{Doc}
use Rattle.kube_objects.specs.Entry.{Entry, Identity, Place}
use Rattle.kube_objects.specs.Health.{last_pass, pass_period, before_pass, is_pass_tick}
use Rattle.kube_objects.specs.InForce.{watches}
use Rattle.kube_objects.specs.Judgement.{passes, queue}
use Rattle.kube_objects.specs.Modes.{nodes, places, mode}
use Rattle.kube_objects.specs.Newest.{only_if, has}
use Rattle.kube_objects.specs.Seen.{seen_node, seen_pod, is_fresh, is_synced, is_stale, node_names, pod_keys}
use Rattle.kube_objects.specs.Sightings.{sighted_due}
use Rattle.kube_objects.specs.Stored.{node_key}
use Rattle.kube_objects.specs.Tainting.{Wants, Nothing, Wanted, Whatever, wants, has_condition, is_opposite, head_of}
use Rattle.kube_objects.specs.Tick.{settles_at, sync, pass, is_stripped, clean, cleaned, taint, push, evict, has_room, spends, tick}
use Rattle.kube_objects.specs.Tokens.{Rated, rated, base, is_full_by, token_size}
use Rattle.kube_objects.specs.Tolerations.{due}
use Rattle.agenda_laws.specs.Times.{is_early, sooner}

-- ---- a sync: at once, or from the reading on from which the term has settled, where that takes time

-- the watch is on and the cache isn't up to date
abbrev pub is_sync_due : Doc → Identity → List Entry → Bool
is_sync_due doc q h = watches doc q.process h && not (is_fresh q h)

abbrev pub is_sync_at_once : Doc → Identity → List Entry → Bool
is_sync_at_once doc q h = (doc.settings.rules.first_sync_millis == 0) && is_sync_due doc q h

abbrev pub sync_at : Doc → Identity → List Entry → Option ℕ
sync_at doc q h = only_if (is_sync_due doc q h) (settles_at doc q h)

-- no sync is due at beat k
pub record IsEarlySync (doc : Doc) (k : ℕ) (q : Identity) (h : List Entry) : Type 0 where
  pub at_once : is_sync_at_once doc q h ≡ false
  pub reading : is_early (local doc q.process k) (sync_at doc q h) ≡ true

abbrev pub SyncsWake : Type 0
SyncsWake = (doc : Doc) (k : ℕ) (q : Identity) (h : List Entry) → sync doc k q h ≡ h ↔ IsEarlySync doc k q h

-- ---- at once: an untaint, a swap

-- a condition taint that isn't wanted, or the opposite of the one that is
abbrev pub is_unclean : Node → Wants → Bool
is_unclean node Nothing = has_condition node
is_unclean node (Wanted wanted) = list_any (is_opposite wanted) node.taints
is_unclean node Whatever = false

-- stale says whether the node's key is, and on whether the all-Full mode is
abbrev pub is_unclean_seen : (on stale : Bool) → Option (Version × Node) → Bool
is_unclean_seen on true x = false
is_unclean_seen on false None = false
is_unclean_seen on false (Some x) = is_unclean x.1 (wants on x.1)

-- an untaint or a swap of a node is due
abbrev pub is_clean_due : Identity → List Entry → ℕ → Bool
is_clean_due q h name = is_unclean_seen (mode q h) (is_stale q (node_key name) h) (seen_node q name h)

-- where the tick doesn't strip the node
abbrev pub CleansWake : Type 0
CleansWake =
    (doc : Doc) (k : ℕ) (q : Identity) (name : ℕ) (h : List Entry) → is_stripped doc.settings.rules.first_sight k q name h ≡ false
    → clean doc k q name h ≡ h ↔ is_clean_due q h name ≡ false

abbrev pub has_clean_due_by : JudgeRule → Identity → List Entry → Bool
has_clean_due_by judges.Tick q h = list_any (is_clean_due q h) (node_names h)
has_clean_due_by judges.Pass q h = false

-- one of some node is due; where nodes are judged at passes alone that is at a pass's tick, which has the pass
abbrev pub has_clean_due : Doc → Identity → List Entry → Bool
has_clean_due doc q h = has_clean_due_by doc.settings.rules.judge q h

-- whether the tick of a pass does more of nodes than another one: it judges them, or strips them
abbrev pub minds_passes : JudgeRule → SightRule → Bool
minds_passes judges.Tick Keep = false
minds_passes judges.Tick Strip = true
minds_passes judges.Pass sight = true

-- where that is so the term has had no pass at this beat, as before the beat is done
abbrev pub HadNoPass : Doc → ℕ → Identity → List Entry → Type 0
HadNoPass doc k q h = minds_passes doc.settings.rules.judge doc.settings.rules.first_sight ≡ true → is_pass_tick k q h ≡ false

abbrev pub JudgesWake : Type 0
JudgesWake = (doc : Doc) (k : ℕ) (q : Identity) (h : List Entry) → HadNoPass doc k q h → cleaned doc k q h ≡ h ↔ has_clean_due doc q h ≡ false

-- a tick, were it to have no pass, has a sync, an untaint or a swap, whatever the time
abbrev pub is_due_at_once : Doc → Identity → List Entry → Bool
is_due_at_once doc q h = is_sync_at_once doc q h || (is_synced q h && has_clean_due doc q h)

-- ---- from a reading: the pass, and a token of a zone that has a node in its queue

-- the first pass is due at once, and another one a period after the last
abbrev pub pass_after : Doc → Identity → (period : ℕ) → Option ℕ → ℕ
pass_after doc q period None = 0
pass_after doc q period (Some last) = local doc q.process last + period

-- the period is the monitor's, and the last pass's work
abbrev pub pass_at : Doc → Identity → List Entry → Option ℕ
pass_at doc q h = Some (pass_after doc q (pass_period doc q h) (last_pass q h))

abbrev pub PassesWake : Type 0
PassesWake = (doc : Doc) (k : ℕ) (q : Identity) (h : List Entry) → pass doc k q h ≡ h ↔ is_early (local doc q.process k) (pass_at doc q h) ≡ true

-- at a rate of 0 there is never one; else the span in which it grows, rounded up
abbrev pub token_after : ℕ → Option Rated → Option ℕ
token_after from None = None
token_after from (Some x) = cond (x.1 == 0) None (Some (from + div_ceil token_size x.1))

-- where the bucket is full there is one at every reading
abbrev pub token_from : (full : Bool) → ℕ → Option Rated → Option ℕ
token_from false from o = token_after from o
token_from true from None = None
token_from true from (Some x) = cond (x.1 == 0) None (Some 0)

-- the least reading at which a zone's token is there
abbrev pub token_at : Doc → Identity → Place → List Entry → Option ℕ
token_at doc q place h =
    token_from (is_full_by doc.settings.rules.bucket doc q place h) (local doc q.process (base q place h)) (rated q place h)

abbrev pub has_first : List ℕ → Bool
has_first [] = false
has_first (name ∷ names) = true

abbrev pub has_head_by : JudgeRule → Doc → Identity → Place → List Entry → Bool
has_head_by judges.Tick doc q place h = has (head_of q place (node_names h) h)
has_head_by judges.Pass doc q place h = has_first (queue doc q place (passes q h))

-- whether somebody is in the zone's queue
abbrev pub has_head : Doc → Identity → Place → List Entry → Bool
has_head doc q place h = has_head_by doc.settings.rules.judge doc q place h

-- where somebody is
abbrev pub head_at : Doc → Identity → Place → List Entry → Option ℕ
head_at doc q place h = only_if (has_head doc q place h) (token_at doc q place h)

-- the turn of a zone's first one
abbrev pub turn_by : JudgeRule → Doc → ℕ → Identity → Place → List Entry → List Entry
turn_by judges.Tick doc k q place h = taint doc k q place h
turn_by judges.Pass doc k q place h = push doc k q place h

abbrev pub HeadsWake : Type 0
HeadsWake =
    (doc : Doc) (k : ℕ) (q : Identity) (place : Place) (h : List Entry)
    → turn_by doc.settings.rules.judge doc k q place h ≡ h ↔ is_early (local doc q.process k) (head_at doc q place h) ≡ true

abbrev pub heads_at : Doc → Identity → List Place → List Entry → Option ℕ
heads_at doc q [] h = None
heads_at doc q (place ∷ places) h = sooner (head_at doc q place h) (heads_at doc q places h)

abbrev pub queue_places_by : JudgeRule → Identity → List Entry → List Place
queue_places_by judges.Tick q h = places (nodes q h)
queue_places_by judges.Pass q h = places (nodes q (before_pass q h))

-- the zones that have queues: of the cache, or of the last pass
abbrev pub queue_places : Doc → Identity → List Entry → List Place
queue_places doc q h = queue_places_by doc.settings.rules.judge q h

-- ---- from a time of day, and within a limit from a reading: the least due of the cache's pods

abbrev pub time_of : Due → Option ℕ
time_of Never = None
time_of (At at) = Some at

abbrev pub due_on : Pod → Option (Version × Node) → Option ℕ
due_on pod None = None
due_on pod (Some y) = time_of (due pod y.1)

-- stale says whether the pod's key is
abbrev pub due_seen : Identity → Bool → Option (Version × Pod) → List Entry → Option ℕ
due_seen q true x h = None
due_seen q false None h = None
due_seen q false (Some x) h = due_on x.1 (seen_node q x.1.node h)

-- the same of a pod that is due by what the term has seen of it
abbrev pub due_sighted : Bool → Option (Version × Pod) → Due → Option ℕ
due_sighted true x due = None
due_sighted false None due = None
due_sighted false (Some x) due = time_of due

abbrev pub due_at_by : EvictRule → Doc → Identity → Key → List Entry → Option ℕ
due_at_by evictions.Added doc q pod h = due_seen q (is_stale q pod h) (seen_pod q pod h) h
due_at_by evictions.Seen doc q pod h = due_sighted (is_stale q pod h) (seen_pod q pod h) (sighted_due doc q pod h)

-- when a pod is due that isn't stale: by the taints of its node, where the cache has it, or by what the term has seen
abbrev pub due_at : Doc → Identity → Key → List Entry → Option ℕ
due_at doc q pod h = due_at_by doc.settings.rules.evict_from doc q pod h

abbrev pub DeletesWake : Type 0
DeletesWake =
    (doc : Doc) (k : ℕ) (q : Identity) (pod : Key) (h : List Entry)
    → evict doc k q pod h ≡ h ↔ is_early (wall doc q.process k) (due_at doc q pod h) ≡ true

abbrev pub dues_at : Doc → Identity → List Key → List Entry → Option ℕ
dues_at doc q [] h = None
dues_at doc q (pod ∷ pods) h = sooner (due_at doc q pod h) (dues_at doc q pods h)

-- the later of two
abbrev pub later : Option ℕ → Option ℕ → Option ℕ
later None other = None
later (Some one) None = None
later (Some one) (Some other) = Some (max one other)

-- the least reading at which a rate has made up what is owed since another one; at a rate of 0 it never does
abbrev pub room_after : (from owed rate : ℕ) → Option ℕ
room_after from zero rate = Some 0
room_after from (suc owed) rate = cond (rate == 0) None (Some (from + div_ceil (suc owed) rate))

-- the least reading at which a further delete is within the limit, counted from each one that wasn't lost; after is how many came after these
abbrev pub room_from : Doc → Identity → (after : ℕ) → List Entry → Option ℕ
room_from doc q after [] = Some 0
room_from doc q after (e ∷ h) =
    elim (spends q e.actor e.fact) [
      | true ↦
          later
          (room_after (local doc q.process e.beat) ((after + 2 - doc.settings.rules.evict_burst) * token_size) doc.settings.rules.evict_rate)
          (room_from doc q (after + 1) h)
      | false ↦ room_from doc q after h
    ]

abbrev pub RoomsWake : Type 0
RoomsWake =
    (doc : Doc) (k : ℕ) (q : Identity) (after : ℕ) (h : List Entry)
    → has_room doc q k after h ≡ false ↔ is_early (local doc q.process k) (room_from doc q after h) ≡ true

-- without a limit there is room at each reading
abbrev pub room_at : Doc → Identity → List Entry → Option ℕ
room_at doc q h = cond (doc.settings.rules.evict_burst == 0) (Some 0) (room_from doc q 0 h)

-- ---- the tick

-- before its first sync a term waits for that alone
abbrev pub synced_reading : Doc → Identity → List Entry → Option ℕ
synced_reading doc q h = only_if (is_synced q h) (sooner (pass_at doc q h) (heads_at doc q (queue_places doc q h) h))

abbrev pub term_reading : Doc → Identity → List Entry → Option ℕ
term_reading doc q h = sooner (sync_at doc q h) (synced_reading doc q h)

abbrev pub term_time : Doc → Identity → List Entry → Option ℕ
term_time doc q h = only_if (is_synced q h) (dues_at doc q (pod_keys h) h)

-- nothing of a tick's is due at beat k
pub record IsEarlyTick (doc : Doc) (k : ℕ) (q : Identity) (h : List Entry) : Type 0 where
  pub at_once : is_due_at_once doc q h ≡ false
  pub reading : is_early (local doc q.process k) (term_reading doc q h) ≡ true
  pub time : (is_early (wall doc q.process k) (term_time doc q h) || is_early (local doc q.process k) (room_at doc q h)) ≡ true

abbrev pub TicksWake : Type 0
TicksWake = (doc : Doc) (k : ℕ) (q : Identity) (h : List Entry) → HadNoPass doc k q h → tick doc k q h ≡ h ↔ IsEarlyTick doc k q h
