-- State and rate of a term's zones, and the token of a zone's limiter, read from the history. Source: the node lifecycle controller of
-- Kubernetes, its rate limited queues; that a limiter holds one token and starts empty is the profile's.
use Rattle.std.specs.Prelude.{ℕ, ◌-◌, ◌*◌, ◌==◌, ◌&&◌, ◌||◌, not, nat_lt, nat_le, Bool, true, false, List, [], ◌∷◌, Option, Some, None}
use Rattle.kube_objects.specs.declared.deed.Actor.{Actor}
use Rattle.kube_objects.specs.declared.node.ZoneState.{ZoneState}
use Rattle.kube_objects.specs.declared.node.ZoneState.TheVariants as zones
use Rattle.kube_objects.specs.declared.rules.BucketRule.{BucketRule}
use Rattle.kube_objects.specs.declared.rules.BucketRule.TheVariants.{Empty, Full}
use Rattle.kube_objects.specs.Clocks.{local}
use Rattle.kube_objects.specs.Document.{Doc}
use Rattle.kube_objects.specs.Entry.{Entry, Identity, Place, Fact, Ticks, Pass, Zone, Head, Skip}
use Rattle.kube_objects.specs.Identities.{is_by}
use Rattle.kube_objects.specs.Modes.{nodes, size_in, place_eq}
use Rattle.kube_objects.specs.Newest.{newest, when, only_if, join, or_zero}

-- ---- state and rate of a zone

abbrev pub Rated : Type 0
Rated = ZoneState × ℕ

-- whether the cache has a node of the zone
abbrev pub is_zone : Identity → Place → List Entry → Bool
is_zone q place h = nat_lt 0 (size_in place (nodes q h))

-- a zone's entry gives state and rate, and a pass that finds no node of the zone takes them back
abbrev pub rated_says : Identity → Place → Actor → Fact → List Entry → Option (Option Rated)
rated_says q place who (Ticks (Zone at state rate)) h = when (place_eq at place && is_by q who) (Some (state, rate))
rated_says q place who (Ticks Pass) h = only_if (is_by q who) (when (not (is_zone q place h)) None)
rated_says q place who _ h = None

-- state and rate of a zone at the term's last pass, where it was a zone of that pass
abbrev pub rated : Identity → Place → List Entry → Option Rated
rated q place h = join (newest (λ e T. rated_says q place e.actor e.fact T) h)

abbrev pub is_same_state : ZoneState → ZoneState → Bool
is_same_state zones.Normal zones.Normal = true
is_same_state zones.Partial zones.Partial = true
is_same_state zones.Full zones.Full = true
is_same_state _ _ = false

abbrev pub is_rated : ZoneState → ℕ → Option Rated → Bool
is_rated state rate None = false
is_rated state rate (Some x) = is_same_state x.0 state && (x.1 == rate)

-- ---- the token

abbrev pub has_rate : ℕ → Option Rated → Bool
has_rate rate None = false
has_rate rate (Some x) = x.1 == rate

-- a new zone, a new rate of a zone, and a queued node that has its turn, whatever the answer
abbrev pub is_base : Identity → Place → Actor → Fact → List Entry → Bool
is_base q place who (Ticks (Zone at state rate)) h = place_eq at place && (is_by q who && not (has_rate rate (rated q place h)))
is_base q place who (Ticks (Head at node wanted given written tried)) h = place_eq at place && is_by q who
is_base q place who (Ticks (Skip at node)) h = place_eq at place && is_by q who
is_base q place who _ h = false

-- the beat since which a zone's token grows
abbrev pub base : Identity → Place → List Entry → ℕ
base q place h = or_zero (newest (λ e T. when (is_base q place e.actor e.fact T) e.beat) h)

-- a rate is per 1,000 s, and a reading in units of 10^-12 s
unfoldable pub token_size : ℕ
token_size = 1000000000000000

abbrev pub is_grown : ℕ → Option Rated → Bool
is_grown span None = false
is_grown span (Some x) = nat_le token_size (span * x.1)

-- how far a zone's token has grown at beat k
abbrev pub grown : Doc → Identity → ℕ → Place → List Entry → ℕ
grown doc q k place h = local doc q.process k - local doc q.process (base q place h)

-- ---- buckets that start full. Source: the node lifecycle controller of Kubernetes 1.20, its queues' limiters, which hold a token at first

abbrev pub is_there : (full : Bool) → ℕ → Option Rated → Bool
is_there full span None = false
is_there full span (Some x) = not (x.1 == 0) && (full || nat_le token_size (span * x.1))

-- what a zone's entry leaves: a new zone is full, and a new rate where the token was there by the rate before
abbrev pub fills_zone : Option Rated → (new there full : Bool) → Bool
fills_zone None new there full = true
fills_zone (Some x) true there full = there
fills_zone (Some x) false there full = full

abbrev pub fills : Doc → Identity → Place → ℕ → Actor → Fact → List Entry → Bool → Bool
fills doc q place k who (Ticks (Zone at state rate)) h full =
    elim (place_eq at place && is_by q who) [
      | true ↦ fills_zone (rated q place h) (not (has_rate rate (rated q place h))) (is_there full (grown doc q k place h) (rated q place h)) full
      | false ↦ full
    ]
fills doc q place k who (Ticks (Head at node wanted given written tried)) h full = full && not (place_eq at place && is_by q who)
fills doc q place k who (Ticks (Skip at node)) h full = full && not (place_eq at place && is_by q who)
fills doc q place k who _ h full = full

-- whether a zone's bucket is full: no queued node has had its turn since
abbrev pub is_full : Doc → Identity → Place → List Entry → Bool
is_full doc q place [] = false
is_full doc q place (e ∷ h) = fills doc q place e.beat e.actor e.fact h (is_full doc q place h)

-- by the rule: one that starts empty is never said to be full
abbrev pub is_full_by : BucketRule → Doc → Identity → Place → List Entry → Bool
is_full_by Empty doc q place h = false
is_full_by Full doc q place h = is_full doc q place h

abbrev pub token_by : BucketRule → Doc → Identity → ℕ → Place → List Entry → Bool
token_by Empty doc q k place h = is_grown (grown doc q k place h) (rated q place h)
token_by Full doc q k place h = is_there (is_full doc q place h) (grown doc q k place h) (rated q place h)

-- whether a zone's token is there at beat k
abbrev pub has_token : Doc → Identity → ℕ → Place → List Entry → Bool
has_token doc q k place h = token_by doc.settings.rules.bucket doc q k place h
