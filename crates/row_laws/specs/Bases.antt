-- Since when a zone's token grows, by the row of entries that leave the zone its rate. Source: the node lifecycle controller of Kubernetes,
-- its rate limited queues; profile.
use Rattle.std.specs.Prelude.{◌≡◌, ℕ, ◌&&◌, Bool, false, List, ◌∷◌, Some, option_map}
use Rattle.kube_objects.specs.declared.deed.Actor.{Actor}
use Rattle.kube_objects.specs.Entry.{Entry, Identity, Place, Fact, Ticks, Head, Skip}
use Rattle.kube_objects.specs.Identities.{is_by}
use Rattle.kube_objects.specs.Modes.{place_eq}
use Rattle.kube_objects.specs.Tokens.{Rated, rated_says, rated, has_rate, base}
use Rattle.row_laws.specs.Rows.{Says, Row, IsLatest}

-- an entry that gives the zone state and rate, or a pass that finds no node of it, says whether it is a zone with this rate
abbrev pub rates : Identity → Place → ℕ → Says
rates q place rate e h = option_map (has_rate rate) (rated_says q place e.actor e.fact h)

-- a queued node of the zone has its turn: a taint is tried, whatever its answer, or nothing written
abbrev pub is_head_of : Identity → Place → Actor → Fact → Bool
is_head_of q place who (Ticks (Head at node wanted given written tried)) = place_eq at place && is_by q who
is_head_of q place who (Ticks (Skip at node)) = place_eq at place && is_by q who
is_head_of q place who _ = false

-- a zone's base is the beat of the first one of the longest row of such entries up to now that all give it its present rate, so of its first
-- pass or of the last change of its rate, or of the latest queued taint of it since
abbrev pub BasesAreOfRows : Type 0
BasesAreOfRows =
    (q : Identity) (place : Place) (h : List Entry) (x : Rated) → rated q place h ≡ Some x
    → (row : Row (rates q place x.1) h) × IsLatest (λ e T. is_head_of q place e.actor e.fact) h (row.e ∷ row.before) (base q place h)
