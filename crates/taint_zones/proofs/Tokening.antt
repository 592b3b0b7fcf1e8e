-- The token of a zone's limit.
use Rattle.std.proofs.Common.{◌≡◌, ◌∙◌, ℕ, ◌*◌, ◌-◌, ◌==◌, ◌&&◌, ◌||◌, not, nat_le, Bool, true, false, cond, List, Some, None, refl, sym, ap}
use Rattle.std.specs.BTreeMap.{BTreeMap, get, Updates}
use Rattle.kube_objects.specs.Clocks.{local}
use Rattle.kube_objects.specs.Document.{Doc}
use Rattle.kube_objects.specs.Entry as entry
use Rattle.kube_objects.specs.Entry.{Entry, Identity}
use Rattle.kube_objects.specs.Tokens as tokens
use Rattle.kube_objects.specs.Tokens.{base, is_full_by, is_there, rated, token_size}
use Rattle.kube_objects.proofs.Tokens.{token_is_there}
use Rattle.rate_bucket.specs.Filling.{Filling, after_attempt, has_token}
use Rattle.taint_zones.specs.declared.limit.Limit.{Limit}
use Rattle.taint_zones.specs.declared.place.Place.{Place}
use Rattle.taint_zones.specs.Limits.{LimitStands, after_token}
use Rattle.taint_zones.specs.Places.{zone_cmp, zone_eq}
use Rattle.taint_zones.proofs.ZoneMaps.{same_zone}

-- what a limit says of the token of its zone at a reading
pub token_at : (doc : Doc) (q : Identity) (h : List Entry) (place : entry.Place) (limit : Limit) (at : ℕ) → LimitStands doc q h place (Some limit)
    → has_token limit.bucket at ≡ is_there (is_full_by doc.settings.rules.bucket doc q place h) (at - local doc q.process (base q place h)) (rated q place h)
unfolding token_size
token_at doc q h place limit at s =
    ap (λ r. not (r == 0) && (limit.bucket.full || nat_le 1000000000000000 ((at - limit.bucket.base) * r))) s.rate
    ∙ ap (λ f. not (limit.rate == 0) && (f || nat_le 1000000000000000 ((at - limit.bucket.base) * limit.rate))) s.full
    ∙ ap (λ b. not (limit.rate == 0) && (is_full_by doc.settings.rules.bucket doc q place h || nat_le 1000000000000000 ((at - b) * limit.rate))) s.base
    ∙ ap (is_there (is_full_by doc.settings.rules.bucket doc q place h) (at - local doc q.process (base q place h))) s.rated

-- the token is there as the history says
pub token_is : (doc : Doc) (q : Identity) (k : ℕ) (h : List Entry) (place : entry.Place) (limit : Limit) (now : ℕ) → LimitStands doc q h place (Some limit)
    → now ≡ local doc q.process k → has_token limit.bucket now ≡ tokens.has_token doc q k place h
token_is doc q k h place limit now s reading =
    token_at doc q h place limit now s
    ∙ ap (λ n. is_there (is_full_by doc.settings.rules.bucket doc q place h) (n - local doc q.process (base q place h)) (rated q place h)) reading
    ∙ sym (token_is_there doc q k place h)

pub no_token : (doc : Doc) (q : Identity) (k : ℕ) (h : List Entry) (place : entry.Place) → LimitStands doc q h place None → false ≡ tokens.has_token doc q k place h
no_token doc q k h place s =
    ap (is_there (is_full_by doc.settings.rules.bucket doc q place h) (local doc q.process k - local doc q.process (base q place h))) s.rated ∙ sym (token_is_there doc q k place h)

module _ (limits new : BTreeMap Place Limit) (place : Place) (limit : Limit) (bucket : Filling) (now : ℕ) (taken : Bool) (found : get zone_cmp limits place ≡ Some limit)
    (u : Updates zone_cmp limits new place (Some (record { state = limit.state; rate = limit.rate; bucket = bucket }))) (after : bucket ≡ after_attempt limit.bucket now taken) where
  pub limit_kept : taken ≡ false → (zone : Place) → get zone_cmp new zone ≡ get zone_cmp limits zone
  limit_kept not_taken zone = u.0 zone ∙ by_zone (zone_eq place zone) refl
    where
      by_zone : (b : Bool) → zone_eq place zone ≡ b → cond b (Some (record { state = limit.state; rate = limit.rate; bucket = bucket })) (get zone_cmp limits zone) ≡ get zone_cmp limits zone
      by_zone false is = refl
      by_zone true is =
          ap (λ b. Some (record { state = limit.state; rate = limit.rate; bucket = b })) (after ∙ ap (after_attempt limit.bucket now) not_taken)
          ∙ sym found ∙ ap (get zone_cmp limits) (same_zone place zone is)

  pub limit_taken : taken ≡ true → (zone : Place) → get zone_cmp new zone ≡ cond (zone_eq place zone) (after_token now (get zone_cmp limits zone)) (get zone_cmp limits zone)
  limit_taken is_taken zone = u.0 zone ∙ by_zone (zone_eq place zone) refl
    where
      by_zone : (b : Bool) → zone_eq place zone ≡ b
          → cond b (Some (record { state = limit.state; rate = limit.rate; bucket = bucket })) (get zone_cmp limits zone) ≡ cond b (after_token now (get zone_cmp limits zone)) (get zone_cmp limits zone)
      by_zone false is = refl
      by_zone true is =
          ap (λ b. Some (record { state = limit.state; rate = limit.rate; bucket = b })) (after ∙ ap (after_attempt limit.bucket now) is_taken)
          ∙ ap (after_token now) (sym found ∙ ap (get zone_cmp limits) (same_zone place zone is))
