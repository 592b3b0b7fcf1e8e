-- The limits of zones through a pass.
use Rattle.std.proofs.Common.{◌≡◌, ◌∙◌, ℕ, ◌==◌, ◌&&◌, ◌-◌, not, Bool, true, false, cond, List, Option, Some, None, IfSome, refl, sym, ap, subst}
use Rattle.std.specs.Prelude.{if◌then◌else◌}
use Rattle.std.proofs.lemmas.Bool.{eqb-true}
use Rattle.kube_objects.specs.declared.rules.BucketRule.{BucketRule}
use Rattle.kube_objects.specs.declared.rules.BucketRule.TheVariants as buckets
use Rattle.kube_objects.specs.declared.node.ZoneState.{ZoneState}
use Rattle.kube_objects.specs.declared.node.ZoneState.TheVariants.{Normal, Partial, Full}
use Rattle.kube_objects.specs.Clocks.{local}
use Rattle.kube_objects.specs.Document.{Doc}
use Rattle.kube_objects.specs.Entry.{Entry, Identity, Place as Zone, Zone as ZoneEntry}
use Rattle.kube_objects.specs.Modes.{place_eq}
use Rattle.kube_objects.specs.Tick.{add, zone_as}
use Rattle.kube_objects.specs.Tokens.{rated, base, fills_zone, grown, has_rate, is_full, is_full_by, is_rated, is_same_state, is_there}
use Rattle.history_laws.proofs.Plainly.{and_left, and_right}
use Rattle.rate_bucket.specs.Filling.{Filling, empty_at, filling, has_token}
use Rattle.taint_zones.specs.declared.limit.Limit.{Limit}
use Rattle.taint_zones.specs.Limits.{LimitStands, new_bucket, with_rate}
use Rattle.taint_zones.proofs.Tokening.{token_at}
use Rattle.tick_laws.proofs.Orders.{place_itself}
use Rattle.tick_laws.proofs.Zoning.{rated_zoned, base_zoned, full_zoned}

-- ---- the limit of the zone itself

same_state : (a b : ZoneState) → is_same_state a b ≡ true → a ≡ b
same_state Normal Normal is = refl
same_state Partial Partial is = refl
same_state Full Full is = refl
same_state Normal Partial is = absurd (cc)
same_state Normal Full is = absurd (cc)
same_state Partial Normal is = absurd (cc)
same_state Partial Full is = absurd (cc)
same_state Full Normal is = absurd (cc)
same_state Full Partial is = absurd (cc)

module _ (doc : Doc) (k : ℕ) (q : Identity) (h : List Entry) (place : Zone) (state : ZoneState) (rate now : ℕ) (reading : now ≡ local doc q.process k) where
  abbrev zoned : List Entry
  zoned = add k q (ZoneEntry place state rate) h

  rated_here : rated q place zoned ≡ Some (state, rate)
  rated_here = rated_zoned q k h place state rate place ∙ ap (λ b. cond b (Some (state, rate)) (rated q place h)) (place_itself place)

  base_here : (b : Bool) → has_rate rate (rated q place h) ≡ b → base q place zoned ≡ cond (not b) k (base q place h)
  base_here b is =
      base_zoned q k h place state rate place
      ∙ ap (λ a. cond (a && not (has_rate rate (rated q place h))) k (base q place h)) (place_itself place)
      ∙ ap (λ b. cond (not b) k (base q place h)) is

  filled_here : is_full doc q place zoned
      ≡ fills_zone (rated q place h) (not (has_rate rate (rated q place h))) (is_there (is_full doc q place h) (grown doc q k place h) (rated q place h)) (is_full doc q place h)
  filled_here =
      full_zoned doc q k h place state rate place
      ∙ ap (λ b. cond b (fills_zone (rated q place h) (not (has_rate rate (rated q place h))) (is_there (is_full doc q place h) (grown doc q k place h) (rated q place h)) (is_full doc q place h)) (is_full doc q place h))
      (place_itself place)

  -- what an entry of the zone leaves, by the rule: a new zone, a new rate, and the same one
  full_new : (rule : BucketRule) → rated q place h ≡ None → (new_bucket rule rate now).full ≡ is_full_by rule doc q place zoned
  full_new buckets.Empty none = refl
  full_new buckets.Full none = sym (filled_here ∙ ap (λ o. fills_zone o (not (has_rate rate o)) (is_there (is_full doc q place h) (grown doc q k place h) o) (is_full doc q place h)) none)

  new_base : (rule : BucketRule) → (new_bucket rule rate now).base ≡ now
  new_base buckets.Empty = refl
  new_base buckets.Full = refl

  new_rate : (rule : BucketRule) → (new_bucket rule rate now).rate ≡ rate
  new_rate buckets.Empty = refl
  new_rate buckets.Full = refl

  -- a zone that had no limit
  pub begun : (rule : BucketRule) → rule ≡ doc.settings.rules.bucket → LimitStands doc q h place None
      → LimitStands doc q (zone_as k q place state rate h) place (Some (record { state = state; rate = rate; bucket = new_bucket rule rate now }))
  begun rule same s =
      subst (λ o. LimitStands doc q (if (is_rated state rate o) then h else add k q (ZoneEntry place state rate) h) place (Some (record { state = state; rate = rate; bucket = new_bucket rule rate now }))) s.rated
      (record {
        rated = sym rated_here;
        rate = new_rate rule;
        base = new_base rule ∙ reading ∙ ap (local doc q.process) (sym (base_here false (ap (has_rate rate) (sym s.rated))));
        full = full_new rule (sym s.rated) ∙ ap (λ r. is_full_by r doc q place zoned) same;
      })

  module _ (rule : BucketRule) (same_rule : rule ≡ doc.settings.rules.bucket) (old : Limit) (s : LimitStands doc q h place (Some old)) where
    abbrev bucket : Filling
    bucket = with_rate rule old.bucket rate now

    abbrev limit : Limit
    limit = record { state = state; rate = rate; bucket = bucket }

    -- the bucket where its rate is equal, and where it isn't
    same_bucket : (rule : BucketRule) → (old.bucket.rate == rate) ≡ true → with_rate rule old.bucket rate now ≡ old.bucket
    same_bucket buckets.Empty is = ap (λ b. cond b old.bucket (empty_at rate now)) is
    same_bucket buckets.Full is = ap (λ b. cond b old.bucket (filling rate now (has_token old.bucket now))) is

    abbrev left_full : BucketRule → Bool
    left_full buckets.Empty = false
    left_full buckets.Full = has_token old.bucket now

    other_bucket : (rule : BucketRule) → (old.bucket.rate == rate) ≡ false → with_rate rule old.bucket rate now ≡ filling rate now (left_full rule)
    other_bucket buckets.Empty is = ap (λ b. cond b old.bucket (empty_at rate now)) is
    other_bucket buckets.Full is = ap (λ b. cond b old.bucket (filling rate now (has_token old.bucket now))) is

    has_rate_is : (b : Bool) → (old.bucket.rate == rate) ≡ b → has_rate rate (rated q place h) ≡ b
    has_rate_is b is = ap (has_rate rate) (sym s.rated) ∙ ap (λ n. n == rate) (sym s.rate) ∙ is

    -- how full the entry leaves it, at the same rate and at another one
    full_same : (rule : BucketRule) → (old.bucket.rate == rate) ≡ true → is_full_by rule doc q place zoned ≡ is_full_by rule doc q place h
    full_same buckets.Empty is = refl
    full_same buckets.Full is =
        filled_here
        ∙ ap (λ b. fills_zone (rated q place h) (not b) (is_there (is_full doc q place h) (grown doc q k place h) (rated q place h)) (is_full doc q place h)) (has_rate_is true is)
        ∙ ap (λ o. fills_zone o false (is_there (is_full doc q place h) (grown doc q k place h) o) (is_full doc q place h)) (sym s.rated)

    full_other : (rule : BucketRule) → rule ≡ doc.settings.rules.bucket → (old.bucket.rate == rate) ≡ false → left_full rule ≡ is_full_by rule doc q place zoned
    full_other buckets.Empty same is = refl
    full_other buckets.Full same is =
        token_at doc q h place old now s
        ∙ (λ i. is_there (is_full_by (sym same i) doc q place h) (reading i - local doc q.process (base q place h)) (rated q place h))
        ∙ ap (λ o. fills_zone o true (is_there (is_full doc q place h) (grown doc q k place h) (rated q place h)) (is_full doc q place h)) s.rated
        ∙ ap (λ b. fills_zone (rated q place h) (not b) (is_there (is_full doc q place h) (grown doc q k place h) (rated q place h)) (is_full doc q place h)) (sym (has_rate_is false is))
        ∙ sym filled_here

    -- with the zone's entry on top
    entered : (b : Bool) → (old.bucket.rate == rate) ≡ b → LimitStands doc q zoned place (Some limit)
    entered true is = record {
      rated = sym rated_here;
      rate = ap (λ (x : Filling). x.rate) (same_bucket rule is) ∙ eqb-true old.bucket.rate rate is;
      base = ap (λ (x : Filling). x.base) (same_bucket rule is) ∙ s.base ∙ ap (local doc q.process) (sym (base_here true (has_rate_is true is)));
      full = ap (λ (x : Filling). x.full) (same_bucket rule is) ∙ s.full ∙ sym (full_same doc.settings.rules.bucket is);
    }
    entered false is = record {
      rated = sym rated_here;
      rate = ap (λ (x : Filling). x.rate) (other_bucket rule is);
      base = ap (λ (x : Filling). x.base) (other_bucket rule is) ∙ reading ∙ ap (local doc q.process) (sym (base_here false (has_rate_is false is)));
      full = ap (λ (x : Filling). x.full) (other_bucket rule is) ∙ full_other rule same_rule is ∙ ap (λ r. is_full_by r doc q place zoned) same_rule;
    }

    by_test : (b : Bool) → is_rated state rate (Some (old.state, old.rate)) ≡ b → LimitStands doc q (if b then h else add k q (ZoneEntry place state rate) h) place (Some limit)
    by_test true is =
        let state_is : old.state ≡ state = same_state old.state state (and_left _ _ is) in
        let rate_same : (old.rate == rate) ≡ true = and_right (is_same_state old.state state) (old.rate == rate) is in
        let rate_is : old.rate ≡ rate = eqb-true old.rate rate rate_same in
        let equal : (old.bucket.rate == rate) ≡ true = ap (λ n. n == rate) s.rate ∙ rate_same in
        record {
          rated = ap (λ x. Some (x, rate)) (sym state_is) ∙ ap (λ n. Some (old.state, n)) (sym rate_is) ∙ s.rated;
          rate = ap (λ (x : Filling). x.rate) (same_bucket rule equal) ∙ s.rate ∙ rate_is;
          base = ap (λ (x : Filling). x.base) (same_bucket rule equal) ∙ s.base;
          full = ap (λ (x : Filling). x.full) (same_bucket rule equal) ∙ s.full;
        }
    by_test false is = entered (old.bucket.rate == rate) refl

    pub went_on : LimitStands doc q (zone_as k q place state rate h) place (Some limit)
    went_on =
        subst (λ o. LimitStands doc q (if (is_rated state rate o) then h else add k q (ZoneEntry place state rate) h) place (Some limit)) s.rated
        (by_test (is_rated state rate (Some (old.state, old.rate))) refl)

-- ---- the limits of other zones

pub other_limit : (doc : Doc) (k : ℕ) (q : Identity) (h : List Entry) (at : Zone) (state : ZoneState) (rate : ℕ) (place : Zone) (x : Option Limit) → place_eq at place ≡ false
    → LimitStands doc q h place x → LimitStands doc q (zone_as k q at state rate h) place x
other_limit doc k q h at state rate place x apart s = by_test (is_rated state rate (rated q at h))
  where
    base_kept : base q place (add k q (ZoneEntry at state rate) h) ≡ base q place h
    base_kept = base_zoned q k h at state rate place ∙ ap (λ a. cond (a && not (has_rate rate (rated q place h))) k (base q place h)) apart

    base_is : (x : Option Limit) → IfSome x (λ limit. limit.bucket.base ≡ local doc q.process (base q place h))
        → IfSome x (λ limit. limit.bucket.base ≡ local doc q.process (base q place (add k q (ZoneEntry at state rate) h)))
    base_is None is = tt
    base_is (Some x) is = is ∙ ap (local doc q.process) (sym base_kept)

    full_kept : (rule : BucketRule) → is_full_by rule doc q place (add k q (ZoneEntry at state rate) h) ≡ is_full_by rule doc q place h
    full_kept buckets.Empty = refl
    full_kept buckets.Full =
        full_zoned doc q k h at state rate place
        ∙ ap (λ b. cond b (fills_zone (rated q place h) (not (has_rate rate (rated q place h))) (is_there (is_full doc q place h) (grown doc q k place h) (rated q place h)) (is_full doc q place h)) (is_full doc q place h)) apart

    full_is : (x : Option Limit) → IfSome x (λ limit. limit.bucket.full ≡ is_full_by doc.settings.rules.bucket doc q place h)
        → IfSome x (λ limit. limit.bucket.full ≡ is_full_by doc.settings.rules.bucket doc q place (add k q (ZoneEntry at state rate) h))
    full_is None is = tt
    full_is (Some x) is = is ∙ sym (full_kept doc.settings.rules.bucket)

    by_test : (b : Bool) → LimitStands doc q (if b then h else add k q (ZoneEntry at state rate) h) place x
    by_test true = s
    by_test false =
        record {
          rated = s.rated ∙ sym (rated_zoned q k h at state rate place ∙ ap (λ b. cond b (Some (state, rate)) (rated q place h)) apart);
          rate = s.rate;
          base = base_is x s.base;
          full = full_is x s.full;
        }
