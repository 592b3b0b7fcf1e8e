-- The zones of a pass, one after the other.
use Rattle.std.proofs.Common.{◌≡◌, ◌∙◌, ℕ, suc, ◌<◌, ◌||◌, nat_lt, Bool, true, false, cond, List, [], ◌∷◌, map, length, Option, Some, None, refl, sym, ap, subst, arith}
use Rattle.std.specs.Prelude.{if◌then◌else◌}
use Rattle.std.specs.BTreeMap.{BTreeMap, get}
use Rattle.std.specs.List.{list_any}
use Rattle.std.specs.Ordering.{is_eq}
use Rattle.std.proofs.lemmas.Bool.Decides.{nat_tests}
use Rattle.kube_objects.specs.declared.deed.Deed.{Deed}
use Rattle.kube_objects.specs.declared.settings.TickSettings.{TickSettings}
use Rattle.kube_objects.specs.Clocks.{local}
use Rattle.kube_objects.specs.Document.{Doc}
use Rattle.kube_objects.specs.Entry.{Entry, Identity, Place as Zone, Zone as ZoneEntry}
use Rattle.kube_objects.specs.Modes.{mode, nodes, place_cmp, place_eq, places, size_in, state_in, rate_in}
use Rattle.kube_objects.specs.declared.node.ZoneState.{ZoneState}
use Rattle.kube_objects.specs.Tick.{for_each, zone, zone_as, set_zones, add}
use Rattle.kube_objects.specs.Tokens.{rated, is_rated}
use Rattle.taint_zones.specs.declared.limit.Limit.{Limit}
use Rattle.taint_zones.specs.declared.place.Place.{Place}
use Rattle.taint_zones.specs.declared.zones.Zones.{Zones}
use Rattle.taint_zones.specs.Limits.{LimitStands, LimitsStand, limit_at}
use Rattle.taint_zones.specs.Places.{of_place, entry_place, zone_cmp}
use Rattle.term_state.specs.MidTick.{IsTold}
use Rattle.term_state.specs.declared.told.Told.{Told}
use Rattle.controller_core.specs.Zoned.{ArePassed}
use Rattle.controller_core.proofs.Passing.ZoneLimits.{other_limit}
use Rattle.tick_laws.specs.Walks.{Above, Ascends}
use Rattle.tick_laws.proofs.Orders.{place_itself, same_place}
use Rattle.zone_counts.specs.declared.counts.ZoneCount.{ZoneCount}
use Rattle.zone_counts.specs.Counted.{zone_count, zone_counts}
use Rattle.zone_counts.specs.Settings.{AreSettings}
use Rattle.zone_counts.proofs.Listed.{places_ascend, there}

-- some zones are done, and these are left
pub record Zoning (doc : Doc) (k : ℕ) (q : Identity) (before : List Deed) (h : List Entry) (rest : List ZoneCount) (kept : BTreeMap Place Limit) (zones : Zones) (told : Told) : Type 0 where
  pub now : List Entry
  pub left : List Zone
  pub rest_is : rest ≡ map (zone_count (nodes q h)) left
  pub ascend : Ascends place_cmp left
  pub follows : for_each (zone doc k q (nodes q h)) left now ≡ set_zones doc k q h
  pub printed : IsTold q k before now told
  pub mode_is : mode q now ≡ mode q h
  pub to_do : (place : Zone) → list_any (place_eq place) left ≡ true → LimitStands doc q now place (limit_at zones place)
  pub done : (place : Zone) → list_any (place_eq place) left ≡ false → LimitStands doc q now place (get zone_cmp kept (of_place place))

-- what the caller owes
pub record IsOwed (doc : Doc) (k : ℕ) (q : Identity) (before : List Deed) (h : List Entry) (counts : List ZoneCount) (on : Bool) (zones : Zones) (settings : TickSettings) (reading : ℕ) (told : Told) : Type 0 where
  pub printed : IsTold q k before h told
  pub passed : ArePassed doc q h zones
  pub counted : counts ≡ zone_counts (nodes q h)
  pub few : length (nodes q h) < 4294967296
  pub on_is : on ≡ mode q h
  pub settings_are : AreSettings doc settings
  pub time : reading ≡ local doc q.process k

some_not : (n : ℕ) → nat_lt 0 n ≡ true → n ≡ 0 → ⊥
some_not n some none = false_is (sym (ap (λ n. nat_lt 0 n) none) ∙ some)
  where
    false_is : false ≡ true → ⊥
    false_is is = cc

none_is : (n : ℕ) → nat_lt 0 n ≡ false → n ≡ 0
none_is n none = grind (arith, nat_tests, none)

pub zoning_begins : (doc : Doc) (k : ℕ) (q : Identity) (before : List Deed) (h : List Entry) (counts : List ZoneCount) (on : Bool) (zones : Zones) (settings : TickSettings) (reading : ℕ) (told : Told) (kept : BTreeMap Place Limit)
    → IsOwed doc k q before h counts on zones settings reading told → ((p : Place) → get zone_cmp kept p ≡ None) → Zoning doc k q before h counts kept zones told
zoning_begins doc k q before h counts on zones settings reading told kept owed none =
    record {
      now = h;
      left = places (nodes q h);
      rest_is = owed.counted;
      ascend = places_ascend (nodes q h);
      follows = refl;
      printed = owed.printed;
      mode_is = refl;
      to_do = λ place is. owed.passed.there place (some_not (size_in place (nodes q h)) (sym (there place (nodes q h)) ∙ is));
      done = λ place is. subst (LimitStands doc q h place) (sym (none (of_place place))) (record {
        rated = sym (owed.passed.gone place (none_is (size_in place (nodes q h)) (sym (there place (nodes q h)) ∙ is)));
        rate = tt;
        base = tt;
        full = tt;
      });
    }

pub zoning_ends : (doc : Doc) (k : ℕ) (q : Identity) (before : List Deed) (h : List Entry) (rest : List ZoneCount) (kept : BTreeMap Place Limit) (zones new : Zones) (told : Told)
    → length rest ≡ 0 → new.limits ≡ kept → Zoning doc k q before h rest kept zones told → IsTold q k before (set_zones doc k q h) told × LimitsStand doc q (set_zones doc k q h) new
zoning_ends doc k q before h rest kept zones new told none is z = by_left z.left z.rest_is z.follows z.done
  where
    by_left : (left : List Zone) → rest ≡ map (zone_count (nodes q h)) left → for_each (zone doc k q (nodes q h)) left z.now ≡ set_zones doc k q h
        → ((place : Zone) → list_any (place_eq place) left ≡ false → LimitStands doc q z.now place (get zone_cmp kept (of_place place)))
        → IsTold q k before (set_zones doc k q h) told × LimitsStand doc q (set_zones doc k q h) new
    by_left [] rest_is follows done = (
      subst (λ g. IsTold q k before g told) follows z.printed,
      λ place. subst (λ g. LimitStands doc q g place (get zone_cmp new.limits (of_place place))) follows
          (subst (λ limits. LimitStands doc q z.now place (get zone_cmp limits (of_place place))) (sym is) (done place refl)),
    )
    by_left (p ∷ ps) rest_is follows done = absurd (suc_no (length (map (zone_count (nodes q h)) ps)) (sym (ap (λ xs. length xs) rest_is) ∙ none))
      where
        suc_no : (n : ℕ) → suc n ≡ 0 → ⊥
        suc_no n is = omega (arith, is)

-- ---- one step

-- the next zone
pub record IsZone (q : Identity) (h : List Entry) (now : List Entry) (one : ZoneCount) (others : List ZoneCount) (left : List Zone) : Type 0 where
  pub place : Zone
  pub further : List Zone
  pub left_is : left ≡ place ∷ further
  pub one_is : one ≡ zone_count (nodes q h) place
  pub others_are : others ≡ map (zone_count (nodes q h)) further

head_of : {A : Type 0} (d : A) → List A → A
head_of d [] = d
head_of d (x ∷ xs) = x

tail_of : {A : Type 0} → List A → List A
tail_of [] = []
tail_of (x ∷ xs) = xs

pub next_zone : (q : Identity) (h now : List Entry) (one : ZoneCount) (others : List ZoneCount) (left : List Zone) → one ∷ others ≡ map (zone_count (nodes q h)) left → IsZone q h now one others left
unfolding head_of tail_of
next_zone q h now one others [] is = absurd (cc)
next_zone q h now one others (p ∷ ps) is =
    record { place = p; further = ps; left_is = refl; one_is = ap (head_of one) is; others_are = ap tail_of is }

not_further : (p : Zone) (ps : List Zone) → Above place_cmp p ps → list_any (place_eq p) ps ≡ false
not_further p [] above = refl
not_further p (x ∷ xs) above = ap (λ o. is_eq o || list_any (place_eq p) xs) above.0 ∙ not_further p xs above.1

pub zoning_goes_on : (doc : Doc) (k : ℕ) (q : Identity) (before : List Deed) (h : List Entry) (rest others : List ZoneCount) (kept after : BTreeMap Place Limit) (zones removed : Zones) (told new : Told)
    (z : Zoning doc k q before h rest kept zones told) (p : Zone) (ps : List Zone) → z.left ≡ p ∷ ps → others ≡ map (zone_count (nodes q h)) ps
    → (limit : Limit) → LimitStands doc q (zone doc k q (nodes q h) p z.now) p (Some limit)
    → ((place : Zone) → get zone_cmp after (of_place place) ≡ cond (place_eq p place) (Some limit) (get zone_cmp kept (of_place place)))
    → ((place : Zone) → limit_at removed place ≡ cond (place_eq p place) None (limit_at zones place))
    → IsTold q k before (zone doc k q (nodes q h) p z.now) new
    → mode q (zone doc k q (nodes q h) p z.now) ≡ mode q z.now
    → Zoning doc k q before h others after removed new
zoning_goes_on doc k q before h rest others kept after zones removed told new z p ps left_is others_are limit stands put taken told_new mode_same =
    record {
      now = zone doc k q (nodes q h) p z.now;
      left = ps;
      rest_is = others_are;
      ascend = ascends.1;
      follows = sym (ap (λ ls. for_each (zone doc k q (nodes q h)) ls z.now) left_is) ∙ z.follows;
      printed = told_new;
      mode_is = mode_same ∙ z.mode_is;
      to_do = λ place is. by_open place (place_eq p place) refl is;
      done = λ place is. by_done place (place_eq p place) refl is;
    }
  where
    ascends : Ascends place_cmp (p ∷ ps)
    ascends = subst (Ascends place_cmp) left_is z.ascend

    other : (place : Zone) (x : Option Limit) → place_eq p place ≡ false → LimitStands doc q z.now place x → LimitStands doc q (zone doc k q (nodes q h) p z.now) place x
    other place x apart s = other_limit doc k q z.now p (state_in doc (nodes q h) p) (rate_in doc (mode q z.now) (nodes q h) p) place x apart s

    turned : (place : Zone) → place_eq p place ≡ false → place_eq place p ≡ false
    turned place apart = by_test (place_eq place p) refl
      where
        by_test : (b : Bool) → place_eq place p ≡ b → b ≡ false
        by_test false is = refl
        by_test true is = sym (place_itself p) ∙ ap (place_eq p) (sym (same_place place p is)) ∙ apart

    by_open : (place : Zone) (b : Bool) → place_eq p place ≡ b → list_any (place_eq place) ps ≡ true → LimitStands doc q (zone doc k q (nodes q h) p z.now) place (limit_at removed place)
    by_open place false apart is =
        subst (LimitStands doc q (zone doc k q (nodes q h) p z.now) place) (sym (taken place ∙ ap (λ b. cond b None (limit_at zones place)) apart))
        (other place (limit_at zones place) apart (z.to_do place (ap (list_any (place_eq place)) left_is ∙ ap (λ b. b || list_any (place_eq place) ps) (turned place apart) ∙ is)))
    by_open place true same is = absurd (false_is (sym (not_further p ps ascends.0) ∙ ap (λ x. list_any (place_eq x) ps) (same_place p place same) ∙ is))
      where
        false_is : false ≡ true → ⊥
        false_is is = cc

    by_done : (place : Zone) (b : Bool) → place_eq p place ≡ b → list_any (place_eq place) ps ≡ false → LimitStands doc q (zone doc k q (nodes q h) p z.now) place (get zone_cmp after (of_place place))
    by_done place true same is =
        subst (LimitStands doc q (zone doc k q (nodes q h) p z.now) place) (sym (put place ∙ ap (λ b. cond b (Some limit) (get zone_cmp kept (of_place place))) same))
        (subst (λ x. LimitStands doc q (zone doc k q (nodes q h) p z.now) x (Some limit)) (same_place p place same) stands)
    by_done place false apart is =
        subst (LimitStands doc q (zone doc k q (nodes q h) p z.now) place) (sym (put place ∙ ap (λ b. cond b (Some limit) (get zone_cmp kept (of_place place))) apart))
        (other place (get zone_cmp kept (of_place place)) apart (z.done place (ap (list_any (place_eq place)) left_is ∙ ap (λ b. b || list_any (place_eq place) ps) (turned place apart) ∙ is)))

-- the code's step, by what its calls tell
module _ (doc : Doc) (k : ℕ) (q : Identity) (before : List Deed) (h : List Entry) (counts : List ZoneCount) (on : Bool) (first : Zones) (settings : TickSettings) (reading : ℕ) (told_first : Told)
    (owed : IsOwed doc k q before h counts on first settings reading told_first) (rest others : List ZoneCount) (one : ZoneCount) (kept after : BTreeMap Place Limit) (zones removed : Zones) (told new : Told)
    (z : Zoning doc k q before h rest kept zones told) (head : rest ≡ one ∷ others) (old : Option Limit) (found : old ≡ get zone_cmp zones.limits one.place)
    (taken : (p : Place) → get zone_cmp removed.limits p ≡ cond (is_eq (zone_cmp one.place p)) None (get zone_cmp zones.limits p)) (state : ZoneState) (rate : ℕ) (limit : Limit) (is : Bool)
    (states : (place : Zone) → one ≡ zone_count (nodes q h) place → state ≡ state_in doc (nodes q h) place)
    (rates : (place : Zone) → one ≡ zone_count (nodes q h) place → rate ≡ rate_in doc on (nodes q h) place)
    (rated_is : (g : List Entry) (place : Zone) → LimitStands doc q g place old → is ≡ is_rated state rate (rated q place g))
    (renewed : (g : List Entry) (place : Zone) → LimitStands doc q g place old → LimitStands doc q (zone_as k q place state rate g) place (Some limit))
    (put : (p : Place) → get zone_cmp after p ≡ cond (is_eq (zone_cmp one.place p)) (Some limit) (get zone_cmp kept p))
    (tells : (g : List Entry) → IsTold q k before g told → IsTold q k before (if is then g else add k q (ZoneEntry (entry_place one.place) state rate) g) new) where
  next : IsZone q h z.now one others z.left
  next = next_zone q h z.now one others z.left (sym head ∙ z.rest_is)

  place_is : one.place ≡ of_place next.place
  place_is = ap (λ (x : ZoneCount). x.place) next.one_is

  old_stands : LimitStands doc q z.now next.place old
  old_stands =
      subst (LimitStands doc q z.now next.place) (sym (found ∙ ap (get zone_cmp zones.limits) place_is))
      (z.to_do next.place (ap (list_any (place_eq next.place)) next.left_is ∙ ap (λ b. b || list_any (place_eq next.place) next.further) (place_itself next.place)))

  zone_is : zone doc k q (nodes q h) next.place z.now ≡ zone_as k q next.place state rate z.now
  zone_is =
      ap (λ s. zone_as k q next.place s (rate_in doc (mode q z.now) (nodes q h) next.place) z.now) (sym (states next.place next.one_is))
      ∙ ap (λ r. zone_as k q next.place state r z.now) (ap (λ b. rate_in doc b (nodes q h) next.place) (z.mode_is ∙ sym owed.on_is) ∙ sym (rates next.place next.one_is))

  mode_same : (b : Bool) → mode q (if b then z.now else add k q (ZoneEntry next.place state rate) z.now) ≡ mode q z.now
  mode_same true = refl
  mode_same false = refl

  pub zone_step : Zoning doc k q before h others after removed new
  zone_step =
      zoning_goes_on doc k q before h rest others kept after zones removed told new z next.place next.further next.left_is next.others_are limit
      (subst (λ g. LimitStands doc q g next.place (Some limit)) (sym zone_is) (renewed z.now next.place old_stands))
      (λ place. put (of_place place) ∙ ap (λ p. cond (is_eq (zone_cmp p (of_place place))) (Some limit) (get zone_cmp kept (of_place place))) place_is)
      (λ place. taken (of_place place) ∙ ap (λ p. cond (is_eq (zone_cmp p (of_place place))) None (get zone_cmp zones.limits (of_place place))) place_is)
      (subst (λ g. IsTold q k before g new) (ap (λ b. (if b then z.now else add k q (ZoneEntry next.place state rate) z.now)) (rated_is z.now next.place old_stands) ∙ sym zone_is)
      (subst (λ p. IsTold q k before (if is then z.now else add k q (ZoneEntry (entry_place p) state rate) z.now) new) place_is (tells z.now z.printed)))
      (ap (mode q) zone_is ∙ mode_same (is_rated state rate (rated q next.place z.now)))
