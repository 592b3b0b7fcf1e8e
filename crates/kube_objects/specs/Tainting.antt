-- Which condition taint a node wants, which nodes wait for one, and which of them comes first, read from the history.
-- Source: the node lifecycle controller of Kubernetes, taint-based evictions; the order of the queue is the profile's.
use Rattle.std.specs.Prelude.{ℕ, ◌==◌, ◌&&◌, ◌||◌, not, nat_lt, Bool, true, false, cond, List, [], ◌∷◌, Option, Some, None}
use Rattle.std.specs.List.{list_any}
use Rattle.kube_base.specs.declared.numbers.Version.{Version}
use Rattle.kube_base.specs.declared.fixed.TheConstants.{NOT_READY, UNREACHABLE}
use Rattle.kube_objects.specs.declared.deed.Actor.{Actor}
use Rattle.kube_objects.specs.declared.node.Node.{Node}
use Rattle.kube_objects.specs.declared.node.Ready.{Ready}
use Rattle.kube_objects.specs.declared.node.ReadyStatus.{ReadyStatus}
use Rattle.kube_objects.specs.declared.node.ReadyStatus.TheVariants as ready
use Rattle.kube_objects.specs.declared.node.Taint.{Taint}
use Rattle.kube_objects.specs.Entry.{Entry, Identity, Place, Fact, Ticks, Head}
use Rattle.kube_objects.specs.Identities.{is_by}
use Rattle.kube_objects.specs.Modes.{is_in, mode}
use Rattle.kube_objects.specs.Newest.{newest, when, only_if, has, or_zero}
use Rattle.kube_objects.specs.Seen.{seen_node}
use Rattle.kube_objects.specs.Stamps.{is_no_execute}

-- ---- condition taints: node.kubernetes.io/not-ready and node.kubernetes.io/unreachable

abbrev pub not_ready : ℕ
not_ready = NOT_READY

abbrev pub unreachable : ℕ
unreachable = UNREACHABLE

-- whatever its value
abbrev pub is_condition : Taint → Bool
is_condition taint = is_no_execute taint.effect && (taint.key == not_ready || taint.key == unreachable)

abbrev pub has_condition : Node → Bool
has_condition node = list_any is_condition node.taints

-- the taint that is wanted, and the other one
abbrev pub is_wanted : ℕ → Taint → Bool
is_wanted wanted taint = is_condition taint && (taint.key == wanted)

abbrev pub is_opposite : ℕ → Taint → Bool
is_opposite wanted taint = is_condition taint && not (taint.key == wanted)

-- ---- what a node wants

-- no condition taint, this one, or to be left alone
pub data Wants : Type 0 where
  Nothing : Wants
  Wanted : (key : ℕ) → Wants
  Whatever : Wants

abbrev pub wants_by : ReadyStatus → Wants
wants_by ready.True = Nothing
wants_by ready.False = Wanted not_ready
wants_by ready.Unknown = Wanted unreachable

abbrev pub wants_ready : Option Ready → Wants
wants_ready None = Whatever
wants_ready (Some r) = wants_by r.status

-- in the all-Full mode no node wants a condition taint
abbrev pub wants : Bool → Node → Wants
wants true node = Nothing
wants false node = wants_ready node.ready

-- ---- waiting

abbrev pub wanted_key : Wants → Option ℕ
wanted_key (Wanted key) = Some key
wanted_key _ = None

-- the taint that a node wants where it has no condition taint
abbrev pub lacks : Bool → Node → Option ℕ
lacks on node = only_if (not (has_condition node)) (wanted_key (wants on node))

abbrev pub lacks_in : Bool → Place → Option (Version × Node) → Option ℕ
lacks_in on place None = None
lacks_in on place (Some x) = only_if (is_in place x.1) (lacks on x.1)

-- the taint that a node waits for in a zone, where it waits there
abbrev pub waits : Identity → Place → ℕ → List Entry → Option ℕ
waits q place name h = lacks_in (mode q h) place (seen_node q name h)

-- ---- the queue

abbrev pub is_tick_of : Identity → ℕ → ℕ → Actor → Fact → Bool
is_tick_of q k beat who (Ticks tick) = (beat == k) && is_by q who
is_tick_of q k beat who _ = false

-- the history before the term's tick at beat k
abbrev pub before_tick : Identity → ℕ → List Entry → List Entry
before_tick q k [] = []
before_tick q k (e ∷ h) = elim (is_tick_of q k e.beat e.actor e.fact) [ true ↦ before_tick q k h | false ↦ e ∷ h ]

-- whether a node's time in the queue begins anew: at its own queued taint, which puts it last, and in a tick before which it
-- didn't wait; that isn't asked within a tick, in which a sync may show the node ready and a mark make it wait again
abbrev pub begins_row : Identity → Place → ℕ → ℕ → Actor → Fact → List Entry → Bool
begins_row q place name k who (Ticks (Head at node wanted given written tried)) h = (node == name) && is_by q who
begins_row q place name k who (Ticks tick) h = is_by q who && not (has (waits q place name (before_tick q k h)))
begins_row q place name k who _ h = false

-- the beat by which a node that waits in a zone has its place in the zone's queue
abbrev pub queued : Identity → Place → ℕ → List Entry → ℕ
queued q place name h = or_zero (newest (λ e T. when (begins_row q place name e.beat e.actor e.fact T) e.beat) h)

-- a beat and a node's name
abbrev pub Queued : Type 0
Queued = ℕ × ℕ

abbrev pub queued_as : ℕ → ℕ → Option ℕ → Option Queued
queued_as at name None = None
queued_as at name (Some wanted) = Some (at, name)

-- the first of two by their beats; of equal beats the one given first
abbrev pub first : Option Queued → Option Queued → Option Queued
first None other = other
first (Some one) None = Some one
first (Some one) (Some other) = Some (cond (nat_lt other.0 one.0) other one)

-- who comes first in a zone's queue, among nodes in order: the least by beat, then by name
abbrev pub head_of : Identity → Place → List ℕ → List Entry → Option Queued
head_of q place [] h = None
head_of q place (name ∷ names) h = first (queued_as (queued q place name h) name (waits q place name h)) (head_of q place names h)
