-- How long a node waits for its taint. Source: the node lifecycle controller of Kubernetes, its rate limited queues; the order of a queue is the
-- profile's.
use Rattle.std.specs.Prelude.{◌≡◌, ◌⊎◌, ◌≤◌, ◌<◌, ℕ, suc, ◌+◌, ◌*◌, ◌==◌, ◌&&◌, ◌||◌, nat_lt, Bool, true, false, List, ◌∷◌, count_by, Some}
use Rattle.std.specs.List.{list_any}
use Rattle.kube_base.specs.declared.numbers.Version.{Version}
use Rattle.kube_objects.specs.declared.call.Answer.TheVariants as answer
use Rattle.kube_objects.specs.declared.node.Node.{Node}
use Rattle.kube_objects.specs.Clocks.{local}
use Rattle.kube_objects.specs.Document.{Doc}
use Rattle.kube_objects.specs.Entry.{Entry, Identity, Place, Ticks, Head, Swap, entry}
use Rattle.kube_objects.specs.Modes.{mode}
use Rattle.kube_objects.specs.Own.{ReleasesByStop, JudgesByOwn, StartsEmpty}
use Rattle.kube_objects.specs.Seen.{seen_node, node_names}
use Rattle.kube_objects.specs.Tainting.{Wanted, wants, is_opposite, queued}
use Rattle.kube_objects.specs.Tick.{pass, cleaned, tainted}
use Rattle.kube_objects.specs.Tokens.{rated, has_rate, base, token_size}
use Rattle.history.specs.History.{history}
use Rattle.history_laws.specs.Tails.{IsTail}
use Rattle.row_laws.specs.Keys.{is_waiting}
use Rattle.span_laws.specs.Spans.{RunsAtLeast, RunsAtMost, IsEnough, IsNeeded}
use Rattle.outage_laws.specs.Attended.{IsAttended, Attends}
use Rattle.outage_laws.specs.Passes.{synced_at}

-- what the untaints and swaps of a leader's tick in beat k go by: the history after its sync and its pass
abbrev pub judged_at : Doc → Identity → ℕ → List Entry
judged_at doc q k = pass doc k q (synced_at doc q k)

-- what its queues are read from: the history after these untaints and swaps
abbrev pub queue_at : Doc → Identity → ℕ → List Entry
queue_at doc q k = cleaned doc k q (judged_at doc q k)

-- and what they leave: the history after the tick's queued taints
abbrev pub served_at : Doc → Identity → ℕ → List Entry
served_at doc q k = tainted doc k q (queue_at doc q k)

-- whether another node waits in the zone and comes before a node: by the beat of its place in the queue, then by its name
abbrev pub is_ahead : Identity → Place → ℕ → List Entry → ℕ → Bool
is_ahead q place name h other =
    is_waiting q place other h
    && (nat_lt (queued q place other h) (queued q place name h) || ((queued q place other h == queued q place name h) && nat_lt other name))

-- how many do
abbrev pub ahead : Identity → Place → ℕ → List Entry → ℕ
ahead q place name h = count_by (is_ahead q place name h) (node_names h)

-- from the queues of beat y on, up to the end of beat e, the zone has this rate
abbrev pub KeepsRate : Doc → Identity → Place → ℕ → ℕ → ℕ → Type 0
KeepsRate doc q place rate y e =
    (h : List Entry) → IsTail (queue_at doc q y) h → IsTail h (history doc (suc e)) → has_rate rate (rated q place h) ≡ true

-- in beat t the leader taints the node out of the zone's queue, and the store accepts it
pub record IsTainted (doc : Doc) (q : Identity) (place : Place) (name t : ℕ) : Type 0 where
  pub wanted : ℕ
  pub given : Version
  pub written : Node
  pub version : Version
  pub before : List Entry
  pub stands : IsTail (entry t 4 q (Ticks (Head place name wanted given written (Some (answer.Done version)))) ∷ before) (history doc (suc t))

-- by a beat the node is tainted, or it doesn't wait any more for another reason
abbrev pub IsServedBy : Doc → Identity → Place → ℕ → ℕ → ℕ → Type 0
IsServedBy doc q place name m last =
    (t : ℕ) × (m ≤ t) × (t ≤ last) × (IsTainted doc q place name t ⊎ (is_waiting q place name (queue_at doc q t) ≡ false))

-- with the project's own rules, those of judgement too, while a leader attends to its nodes: of a node's zone with one rate from beat y on, and a beat by which a token's
-- interval is over since the base that the zone has in beat y: the node's taint comes by that beat and as many intervals later as nodes are ahead
-- of it in beat m
abbrev pub TaintsCome : Type 0
TaintsCome =
    (doc : Doc) → ReleasesByStop doc → JudgesByOwn doc → (q : Identity) (place : Place) (name m y e : ℕ) → Attends doc q m e → m ≤ y
    → (rate slow interval enough full : ℕ) → KeepsRate doc q place rate y e → RunsAtLeast doc q.process y e slow → IsEnough rate token_size interval → IsEnough slow interval enough
    → y ≤ full → local doc q.process (base q place (queue_at doc q y)) + interval ≤ local doc q.process full
    → full + ahead q place name (queue_at doc q m) * enough ≤ e
    → IsServedBy doc q place name m (full + ahead q place name (queue_at doc q m) * enough)

-- so by as many intervals after beat y, and one more, whatever the base is
abbrev pub TaintsComeAnyway : Type 0
TaintsComeAnyway =
    (doc : Doc) → ReleasesByStop doc → JudgesByOwn doc → (q : Identity) (place : Place) (name m y e : ℕ) → Attends doc q m e → m ≤ y
    → (rate slow interval enough : ℕ) → KeepsRate doc q place rate y e → RunsAtLeast doc q.process y e slow → IsEnough rate token_size interval → IsEnough slow interval enough
    → y + (ahead q place name (queue_at doc q m) + 1) * enough ≤ e
    → IsServedBy doc q place name m (y + (ahead q place name (queue_at doc q m) + 1) * enough)

-- a node leaves the zone's queue by a queued taint of beat t: it waits before these taints, and doesn't after them
abbrev pub LeavesTainted : Doc → Identity → Place → ℕ → ℕ → Type 0
LeavesTainted doc q place name t = (is_waiting q place name (queue_at doc q t) ≡ true) × (is_waiting q place name (served_at doc q t) ≡ false)

-- the nodes that are ahead of a node in beat m leave the queue in no other way before beat t
abbrev pub LeaveTaintedOnly : Doc → Identity → Place → ℕ → ℕ → ℕ → Type 0
LeaveTaintedOnly doc q place name m t =
    (other k : ℕ) → is_ahead q place name (queue_at doc q m) other ≡ true → m ≤ k → k < t → is_waiting q place other (served_at doc q k) ≡ true
    → is_waiting q place other (queue_at doc q (suc k)) ≡ true

-- a node that waits in beat m leaves its zone's queue by a taint no sooner than as many intervals later as nodes are ahead of it in beat m, where
-- these leave by taints only, and buckets start empty
abbrev pub TaintsTakeTime : Type 0
TaintsTakeTime =
    (doc : Doc) → ReleasesByStop doc → JudgesByOwn doc → StartsEmpty doc → (q : Identity) (place : Place) (name m t : ℕ) → Attends doc q m t → m ≤ t → is_waiting q place name (queue_at doc q m) ≡ true → LeavesTainted doc q place name t
    → LeaveTaintedOnly doc q place name m t
    → (rate fast interval needed : ℕ) → KeepsRate doc q place rate m t → RunsAtMost doc q.process m t fast → IsNeeded rate token_size interval → IsNeeded fast interval needed
    → m + ahead q place name (queue_at doc q m) * needed ≤ t

-- in beat k the leader puts the wanted taint in place of its opposite, and the store accepts it
pub record IsSwapped (doc : Doc) (q : Identity) (name wanted k : ℕ) : Type 0 where
  pub given : Version
  pub written : Node
  pub version : Version
  pub before : List Entry
  pub stands : IsTail (entry k 4 q (Ticks (Swap name wanted given written (Some (answer.Done version)))) ∷ before) (history doc (suc k))

-- a node that has the opposite of the taint that it wants doesn't wait: in an attended beat it is swapped at once
abbrev pub SwapsAreAtOnce : Type 0
SwapsAreAtOnce =
    (doc : Doc) → ReleasesByStop doc → JudgesByOwn doc → (q : Identity) (name wanted k : ℕ) → IsAttended doc q k → (x : Version × Node) → seen_node q name (judged_at doc q k) ≡ Some x
    → wants (mode q (judged_at doc q k)) x.1 ≡ Wanted wanted → list_any (is_opposite wanted) x.1.taints ≡ true → IsSwapped doc q name wanted k
