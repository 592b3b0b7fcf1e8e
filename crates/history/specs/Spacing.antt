-- The claim on queued taints: they keep the zone's interval, under the lease premise also over a change of the leader.
-- Source: the node lifecycle controller of Kubernetes, its rate limited queues; the profile.
use Rattle.std.specs.Prelude.{ℕ, ◌+◌, ◌-◌, ◌*◌, ◌/◌, ◌≤◌, ◌<◌, ◌≡◌, ◌⊎◌, ◌&&◌, not, nat_le, Bool, true, false}
use Rattle.std.specs.Prelude.{List, [], ◌∷◌, length, Option, Some, None}
use Rattle.std.specs.List.{list_any}
use Rattle.kube_objects.specs.declared.deed.Actor.{Actor}
use Rattle.kube_objects.specs.declared.rules.BucketRule.{BucketRule}
use Rattle.kube_objects.specs.declared.rules.BucketRule.TheVariants.{Empty, Full}
use Rattle.kube_objects.specs.Document.{Doc, beat_micros}
use Rattle.kube_objects.specs.Entry.{Entry, Identity, Place, Fact, Ticks, Zone, Head, Skip}
use Rattle.kube_objects.specs.Identities.{is_by, identity_of}
use Rattle.kube_objects.specs.Modes.{place_eq}
use Rattle.kube_objects.specs.Newest.{newest, count, added, when, has, or_zero}
use Rattle.kube_objects.specs.Tokens.{Rated, rated, token_size}
use Rattle.history.specs.Evictions.{IfBy}
use Rattle.history.specs.History.{whole_history}
use Rattle.history.specs.Premise.{greatest_below, more}

-- an entry is one of these
abbrev pub IsIn : Entry → List Entry → Type 0
IsIn f [] = ⊥
IsIn f (e ∷ h) = (f ≡ e) ⊎ IsIn f h

abbrev pub rate_or_zero : Option Rated → ℕ
rate_or_zero None = 0
rate_or_zero (Some x) = x.1

-- the rate of a zone at the term's last pass
abbrev pub zone_rate : Identity → Place → List Entry → ℕ
zone_rate q place h = rate_or_zero (rated q place h)

-- a queued node of the zone has its turn
abbrev pub is_head : Place → Fact → Bool
is_head place (Ticks (Head at node wanted given written tried)) = place_eq at place
is_head place (Ticks (Skip at node)) = place_eq at place
is_head place _ = false

-- how far the fastest clock of a controller goes in some beats, at most
abbrev pub greatest_span : Doc → ℕ → ℕ
greatest_span doc beats = beats * (beat_micros doc * greatest_below doc (length doc.controllers))

-- a token grows from each queued taint of the zone in an earlier beat, by whomever and whatever its answer, to this one
abbrev pub IsSpaced : Doc → Identity → ℕ → Place → List Entry → Type 0
IsSpaced doc q k place h =
    (f : Entry) → IsIn f h → is_head place f.fact ≡ true → f.beat < k → token_size ≤ greatest_span doc (k - f.beat) * zone_rate q place h

-- what a claim says of each turn of a queued node; h is the history before the entry
abbrev pub AtHead : (Identity → ℕ → Place → List Entry → Type 0) → ℕ → Actor → Fact → List Entry → Type 0
AtHead Claim k who (Ticks (Head place node wanted given written tried)) h = IfBy who (λ q. Claim q k place h)
AtHead Claim k who (Ticks (Skip place node)) h = IfBy who (λ q. Claim q k place h)
AtHead Claim k who _ h = Unit {0}

abbrev pub AtHeadsIn : (Identity → ℕ → Place → List Entry → Type 0) → List Entry → Type 0
AtHeadsIn Claim [] = Unit {0}
AtHeadsIn Claim (e ∷ h) = AtHead Claim e.beat e.actor e.fact h × AtHeadsIn Claim h

-- ---- buckets that start empty: over a change of the leader too

abbrev pub IsSpacedHead : Doc → Identity → ℕ → Place → List Entry → Type 0
IsSpacedHead doc q k place h = (zone_rate q place h ≤ doc.settings.primary_rate) × IsSpaced doc q k place h

abbrev pub SpacedAt : Doc → ℕ → Actor → Fact → List Entry → Type 0
SpacedAt doc k who fact h = AtHead (IsSpacedHead doc) k who fact h

abbrev pub SpacedIn : Doc → List Entry → Type 0
SpacedIn doc h = AtHeadsIn (IsSpacedHead doc) h

-- ---- buckets that start full: within a row of a term's passes at which the zone is one

abbrev pub is_new_zone : Identity → Place → Actor → Fact → List Entry → Bool
is_new_zone q place who (Ticks (Zone at state rate)) h = (place_eq at place && is_by q who) && not (has (rated q place h))
is_new_zone q place who _ h = false

-- the beat of the first pass of the row
abbrev pub row_began : Identity → Place → List Entry → ℕ
row_began q place h = or_zero (newest (λ e T. when (is_new_zone q place e.actor e.fact T) e.beat) h)

-- the greatest rate of the zone at a pass from the last one up to beat j on
abbrev pub greatest_since : Identity → Place → ℕ → List Entry → ℕ
greatest_since q place j [] = 0
greatest_since q place j (e ∷ h) =
    elim (nat_le e.beat j) [ true ↦ zone_rate q place (e ∷ h) | false ↦ more (zone_rate q place (e ∷ h)) (greatest_since q place j h) ]

-- a token grows from each turn in an earlier beat of the row to this one
abbrev pub IsSpacedInRow : Doc → Identity → ℕ → Place → List Entry → Type 0
IsSpacedInRow doc q k place h =
    (f : Entry) → IsIn f h → is_head place f.fact ≡ true → is_by q f.actor ≡ true → row_began q place h ≤ f.beat → f.beat < k
    → (token_size ≤ greatest_span doc (k - f.beat) * greatest_since q place f.beat h)
    × (greatest_since q place f.beat h ≤ doc.settings.primary_rate)

abbrev pub SpacingInRows : Doc → Type 0
SpacingInRows doc = AtHeadsIn (IsSpacedInRow doc) (whole_history doc)

-- ---- and over changes of the leader: each row gives one turn more than the interval allows

abbrev pub is_between : (i j k : ℕ) → Bool
is_between i j k = nat_le i k && nat_le k j

-- the turns of a zone's queued nodes at the beats i to j
abbrev pub heads_between : Place → (i j : ℕ) → List Entry → ℕ
heads_between place i j h = count (λ e. is_head place e.fact && is_between i j e.beat) h

abbrev pub is_head_since : Identity → Place → ℕ → Entry → Bool
is_head_since q place i e = is_head place e.fact && (is_by q e.actor && nat_le i e.beat)

-- whether a turn is the first one of its row from beat i on; h is the history before it
abbrev pub opens_row : Place → ℕ → Option Identity → List Entry → Bool
opens_row place i None h = false
opens_row place i (Some q) h = not (list_any (is_head_since q place (more i (row_began q place h))) h)

-- the rows in which the turns at the beats i to j lie
abbrev pub rows_between : Place → (i j : ℕ) → List Entry → ℕ
rows_between place i j [] = 0
rows_between place i j (e ∷ h) =
    added ((is_head place e.fact && is_between i j e.beat) && opens_row place i (identity_of e.actor) h) (rows_between place i j h)

abbrev pub SpacingOverRows : Doc → Type 0
SpacingOverRows doc = (place : Place) (i j : ℕ) → i ≤ j
    → heads_between place i j (whole_history doc)
    ≤ rows_between place i j (whole_history doc) + greatest_span doc (j - i) * doc.settings.primary_rate / token_size

-- ---- the claim that a document's buckets keep; the second part of that on full ones stands under the lease premise

abbrev pub SpacingBy : BucketRule → Doc → Type 0
SpacingBy Empty doc = SpacedIn doc (whole_history doc)
SpacingBy Full doc = SpacingInRows doc × SpacingOverRows doc

abbrev pub Spacing : Doc → Type 0
Spacing doc = SpacingBy doc.settings.rules.bucket doc
