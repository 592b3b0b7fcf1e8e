-- The limits of zones stand for a term in a history.
use Rattle.std.specs.Prelude.{◌≡◌, ℕ, cond, List, Option, Some, None, IfSome}
use Rattle.kube_objects.specs.declared.rules.BucketRule.{BucketRule}
use Rattle.kube_objects.specs.declared.rules.BucketRule.TheVariants as buckets
use Rattle.std.specs.BTreeMap.{get}
use Rattle.kube_objects.specs.Clocks.{local}
use Rattle.kube_objects.specs.Document.{Doc}
use Rattle.kube_objects.specs.Entry as entry
use Rattle.kube_objects.specs.Entry.{Entry, Identity}
use Rattle.kube_objects.specs.Tokens.{Rated, rated, base, is_full_by}
use Rattle.rate_bucket.specs.Filling.{Filling, carried, empty_at, filled_at, swapped}
use Rattle.taint_zones.specs.declared.limit.Limit.{Limit}
use Rattle.taint_zones.specs.declared.place.Place.{Place}
use Rattle.taint_zones.specs.declared.zones.Zones.{Zones}
use Rattle.taint_zones.specs.Places.{of_place, zone_cmp, zone_eq}

abbrev pub limit_at : Zones → entry.Place → Option Limit
limit_at zones place = get zone_cmp zones.limits (of_place place)

abbrev pub rated_of : Option Limit → Option Rated
rated_of None = None
rated_of (Some limit) = Some (limit.state, limit.rate)

-- the bucket of a new zone at a reading
abbrev pub new_bucket : BucketRule → ℕ → ℕ → Filling
new_bucket buckets.Empty rate now = empty_at rate now
new_bucket buckets.Full rate now = filled_at rate now

-- and of one that gets a rate, which may be another one
abbrev pub with_rate : BucketRule → Filling → ℕ → ℕ → Filling
with_rate buckets.Empty bucket rate now = swapped bucket rate now
with_rate buckets.Full bucket rate now = carried bucket rate now

-- the limit of one zone: its bucket has its rate, begins at the base, and is full as the rule says
pub record LimitStands (doc : Doc) (q : Identity) (h : List Entry) (place : entry.Place) (x : Option Limit) : Type 0 where
  pub rated : rated_of x ≡ rated q place h
  pub rate : IfSome x (λ limit. limit.bucket.rate ≡ limit.rate)
  pub base : IfSome x (λ limit. limit.bucket.base ≡ local doc q.process (base q place h))
  pub full : IfSome x (λ limit. limit.bucket.full ≡ is_full_by doc.settings.rules.bucket doc q place h)

abbrev pub LimitsStand : Doc → Identity → List Entry → Zones → Type 0
LimitsStand doc q h zones = (place : entry.Place) → LimitStands doc q h place (limit_at zones place)

-- the token was taken at this reading
abbrev pub after_token : ℕ → Option Limit → Option Limit
after_token now None = None
after_token now (Some limit) = Some (record limit { bucket = empty_at limit.bucket.rate now })

-- at one zone
abbrev pub taken_at : Place → ℕ → entry.Place → Option Limit → Option Limit
taken_at place now zone old = cond (zone_eq place (of_place zone)) (after_token now old) old
