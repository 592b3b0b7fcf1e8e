-- After a pass just the zones that it found have a state and a rate.
use Rattle.std.proofs.Common.{◌≡◌, ◌∙◌, ℕ, ◌||◌, nat_lt, Bool, true, false, cond, List, [], ◌∷◌, Option, Some, None, refl, sym, ap}
use Rattle.std.specs.Prelude.{if◌then◌else◌}
use Rattle.std.proofs.lemmas.Cmp.{eq_by_cmp_equiv}
use Rattle.std.specs.List.{list_any}
use Rattle.kube_objects.specs.declared.node.Node.{Node}
use Rattle.kube_objects.specs.declared.node.ZoneState.{ZoneState}
use Rattle.kube_objects.specs.Document.{Doc}
use Rattle.kube_objects.specs.Entry.{Entry, Identity, Place, Zone}
use Rattle.kube_objects.specs.Health.{is_pass_due}
use Rattle.kube_objects.specs.Modes.{mode, nodes, place_eq, places, rate_in, state_in}
use Rattle.kube_objects.specs.Newest.{has}
use Rattle.kube_objects.specs.Tick.{add, for_each, pass, whole_pass, zone}
use Rattle.kube_objects.specs.Tokens.{Rated, is_rated, is_zone, rated}
use Rattle.history_laws.proofs.Plainly.{false_is}
use Rattle.taint_zones.specs.declared.limit.Limit.{Limit}
use Rattle.taint_zones.specs.declared.zones.Zones.{Zones}
use Rattle.taint_zones.specs.Limits.{LimitsStand, limit_at, rated_of}
use Rattle.tick_laws.proofs.Orders.{places_strict, same_place}
use Rattle.tick_laws.proofs.Zoning.{rated_zoned}
use Rattle.zone_counts.proofs.Listed.{there}
use Rattle.controller_core.proofs.Passing.Passed.{moded, moded_rated, moded_size}

rated_has : (state : ZoneState) (rate : ℕ) (o : Option Rated) → is_rated state rate o ≡ true → has o ≡ true
rated_has state rate None is = absurd (false_is is)
rated_has state rate (Some x) is = refl

module _ (doc : Doc) (k : ℕ) (q : Identity) (seen : List Node) (place : Place) where
  -- a zone's step leaves it with a state and a rate, and every other zone as it was
  zone_has : (p : Place) (g : List Entry) → has (rated q place (zone doc k q seen p g)) ≡ (place_eq p place || has (rated q place g))
  zone_has p g = by_same (is_rated state rate (rated q p g)) refl
    where
      state : ZoneState
      state = state_in doc seen p

      rate : ℕ
      rate = rate_in doc (mode q g) seen p

      kept : (b : Bool) → place_eq p place ≡ b → has (rated q p g) ≡ true → has (rated q place g) ≡ (b || has (rated q place g))
      kept true same there = ap (λ x. has (rated q x g)) (sym (same_place p place same)) ∙ there
      kept false apart there = refl

      zoned : (b : Bool) → has (cond b (Some (state, rate)) (rated q place g)) ≡ (b || has (rated q place g))
      zoned true = refl
      zoned false = refl

      by_same : (b : Bool) → is_rated state rate (rated q p g) ≡ b → has (rated q place (if b then g else add k q (Zone p state rate) g)) ≡ (place_eq p place || has (rated q place g))
      by_same true is = kept (place_eq p place) refl (rated_has state rate (rated q p g) is)
      by_same false is = ap has (rated_zoned q k g p state rate place) ∙ zoned (place_eq p place)

  or_swap : (a b c : Bool) → (a || (b || c)) ≡ ((b || a) || c)
  or_swap true true c = refl
  or_swap true false c = refl
  or_swap false true c = refl
  or_swap false false c = refl

  zones_have : (ps : List Place) (g : List Entry) → has (rated q place (for_each (zone doc k q seen) ps g)) ≡ (list_any (place_eq place) ps || has (rated q place g))
  zones_have [] g = refl
  zones_have (p ∷ ps) g =
      zones_have ps (zone doc k q seen p g)
      ∙ ap (λ b. list_any (place_eq place) ps || b) (zone_has p g ∙ ap (λ b. b || has (rated q place g)) ((eq_by_cmp_equiv places_strict.total).symm p place))
      ∙ or_swap (list_any (place_eq place) ps) (place_eq place p) (has (rated q place g))

module _ (doc : Doc) (k : ℕ) (q : Identity) (h : List Entry) where
  pub pass_rated : is_pass_due doc k q h ≡ true → (place : Place) → has (rated q place (pass doc k q h)) ≡ is_zone q place h
  pass_rated due place =
      let m = moded doc k q h in
      ap (λ b. has (rated q place (if b then whole_pass doc k q h else h))) due
      ∙ zones_have doc k q (nodes q m) place (places (nodes q m)) m
      ∙ ap (λ b. b || has (rated q place m)) (there place (nodes q m) ∙ ap (nat_lt 0) (moded_size doc k q h place))
      ∙ ap (λ o. is_zone q place h || has o) (moded_rated doc k q h place)
      ∙ by_zone (is_zone q place h)
    where
      by_zone : (b : Bool) → (b || has (cond b (rated q place h) None)) ≡ b
      by_zone true = refl
      by_zone false = refl

  -- and so just these have a limit
  pub limited : (zones : Zones) → is_pass_due doc k q h ≡ true → LimitsStand doc q (pass doc k q h) zones → (place : Place) → has (limit_at zones place) ≡ is_zone q place h
  limited zones due s place = sym (rated_limit (limit_at zones place)) ∙ ap has (s place).rated ∙ pass_rated due place
    where
      rated_limit : (o : Option Limit) → has (rated_of o) ≡ has o
      rated_limit None = refl
      rated_limit (Some limit) = refl
