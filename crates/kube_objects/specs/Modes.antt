-- Zones of the cache's nodes, their states, and the all-Full mode. Source: the node lifecycle controller of Kubernetes; the profile.
use Rattle.std.specs.Prelude.{ℕ, ◌&&◌, not, nat_lt, Bool, true, false, List, [], ◌∷◌, length, count_by, Option, Some, None}
use Rattle.std.specs.List.{list_all}
use Rattle.std.specs.Ordering.{nat_cmp, ordering_then, eq_by_cmp}
use Rattle.std.specs.declared.cmp.Ordering.{Ordering}
use Rattle.kube_base.specs.declared.numbers.Version.{Version}
use Rattle.kube_objects.specs.declared.deed.Actor.{Actor}
use Rattle.kube_objects.specs.declared.node.Node.{Node}
use Rattle.kube_objects.specs.declared.node.Ready.{Ready}
use Rattle.kube_objects.specs.declared.node.ReadyStatus.{ReadyStatus}
use Rattle.kube_objects.specs.declared.node.ReadyStatus.TheVariants as ready
use Rattle.kube_objects.specs.declared.node.ZoneState.{ZoneState}
use Rattle.kube_objects.specs.declared.node.ZoneState.TheVariants.{Full}
use Rattle.kube_objects.specs.Document.{Doc}
use Rattle.kube_objects.specs.Entry.{Entry, Identity, Place, Fact, Ticks, Mode}
use Rattle.kube_objects.specs.Identities.{is_by}
use Rattle.kube_objects.specs.Newest.{newest, when, or_else}
use Rattle.kube_objects.specs.Seen.{seen_node, node_names, insert_once}
use Rattle.kube_objects.specs.Zones.{state_of, rate_of}

-- ---- the cache's nodes, by zones

abbrev pub and_node : Option (Version × Node) → List Node → List Node
and_node None nodes = nodes
and_node (Some x) nodes = x.1 ∷ nodes

abbrev pub nodes_among : Identity → List ℕ → List Entry → List Node
nodes_among q [] h = []
nodes_among q (name ∷ names) h = and_node (seen_node q name h) (nodes_among q names h)

-- the nodes that the cache has, in order
abbrev pub nodes : Identity → List Entry → List Node
nodes q h = nodes_among q (node_names h) h

abbrev pub place_of : Node → Place
place_of node = record { region = node.region; zone = node.zone }

-- by region, then zone
abbrev pub place_cmp : Place → Place → Ordering
place_cmp a b = ordering_then (nat_cmp a.region b.region) (nat_cmp a.zone b.zone)

abbrev pub place_eq : Place → Place → Bool
place_eq = eq_by_cmp place_cmp

abbrev pub is_in : Place → Node → Bool
is_in place node = place_eq (place_of node) place

-- the zones of some nodes, each once and in order
abbrev pub places : List Node → List Place
places [] = []
places (node ∷ nodes) = insert_once place_cmp (place_of node) (places nodes)

abbrev pub is_true : ReadyStatus → Bool
is_true ready.True = true
is_true _ = false

abbrev pub is_ready : Option Ready → Bool
is_ready None = false
is_ready (Some r) = is_true r.status

-- ---- states

abbrev pub ready_in : Place → List Node → ℕ
ready_in place nodes = count_by (λ node. is_in place node && is_ready node.ready) nodes

abbrev pub other_in : Place → List Node → ℕ
other_in place nodes = count_by (λ node. is_in place node && not (is_ready node.ready)) nodes

abbrev pub size_in : Place → List Node → ℕ
size_in place nodes = count_by (is_in place) nodes

abbrev pub state_in : Doc → List Node → Place → ZoneState
state_in doc nodes place = state_of (ready_in place nodes) (other_in place nodes) doc.settings.unhealthy_percent

abbrev pub is_full : ZoneState → Bool
is_full Full = true
is_full _ = false

-- whether there is a zone, and every zone is Full
abbrev pub all_full : Doc → List Node → Bool
all_full doc nodes = nat_lt 0 (length nodes) && list_all (λ place. is_full (state_in doc nodes place)) (places nodes)

-- the rate of a zone under the document's policy; on says whether the all-Full mode is
abbrev pub rate_in : Doc → Bool → List Node → Place → ℕ
rate_in doc on nodes place =
    rate_of on (state_in doc nodes place) doc.settings.rate_policy doc.settings.primary_rate doc.settings.secondary_rate
    doc.settings.large_zone (size_in place nodes)

-- ---- the mode

abbrev pub mode_says : Identity → Actor → Fact → Option Bool
mode_says q who (Ticks (Mode on)) = when (is_by q who) on
mode_says q who _ = None

-- whether the term's all-Full mode is on; it is off at first
abbrev pub mode : Identity → List Entry → Bool
mode q h = or_else false (newest (λ e T. mode_says q e.actor e.fact) h)
