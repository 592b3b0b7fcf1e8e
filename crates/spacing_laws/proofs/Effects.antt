-- What an entry does to what a zone's token goes by: its rate, its base, whether its bucket is full, and since when it is a zone.
use Rattle.std.proofs.Common.{◌≡◌, ◌∙◌, ℕ, ◌-◌, ◌==◌, ◌<◌, ◌&&◌, not, Bool, true, false, List, ◌∷◌, Option, Some, None, refl, sym, ap}
use Rattle.std.proofs.lemmas.Bool.{eqb-true}
use Rattle.kube_objects.specs.declared.deed.Actor.{Actor}
use Rattle.kube_objects.specs.declared.node.ZoneState.{ZoneState}
use Rattle.kube_objects.specs.Clocks.{local}
use Rattle.kube_objects.specs.Document.{Doc}
use Rattle.kube_objects.specs.Entry.{Entry, Identity, Place, Fact, Ticks, Pass, Zone, Head, Skip}
use Rattle.kube_objects.specs.Identities.{is_by}
use Rattle.kube_objects.specs.Modes.{place_eq}
use Rattle.kube_objects.specs.Newest.{newest, when, only_if, join, has, or_zero}
use Rattle.kube_objects.specs.Tokens.{Rated, is_zone, rated, has_rate, base, is_full, is_there, fills_zone, grown}
use Rattle.history.specs.Spacing.{rate_or_zero, zone_rate, is_head, is_new_zone, row_began}
use Rattle.history_laws.specs.Tails.{In}
use Rattle.history_laws.proofs.Plainly.{upper}
use Rattle.spacing_laws.proofs.Spaced.{base_of, last_rated}

-- ---- a pass comes before the turns of its tick

-- the actor's own turns of queued nodes are of earlier beats
abbrev pub HeadsBefore : ℕ → Actor → List Entry → Type 0
HeadsBefore k who h =
    (q : Identity) → is_by q who ≡ true → (place : Place) (f : Entry) → In f h → is_head place f.fact ≡ true → is_by q f.actor ≡ true → f.beat < k

-- so they are where it sets a zone
abbrev pub ZoneFirst : ℕ → Actor → Fact → List Entry → Type 0
ZoneFirst k who (Ticks (Zone at state rate)) h = HeadsBefore k who h
ZoneFirst k who d h = Unit {0}

-- ---- what an entry does

-- it leaves all of this
pub record IsStill (doc : Doc) (q : Identity) (place : Place) (e : Entry) (h : List Entry) : Type 0 where
  pub rate : zone_rate q place (e ∷ h) ≡ zone_rate q place h
  pub zoned : has (rated q place (e ∷ h)) ≡ has (rated q place h)
  pub since : base q place (e ∷ h) ≡ base q place h
  pub full : is_full doc q place (e ∷ h) ≡ is_full doc q place h
  pub row : row_began q place (e ∷ h) ≡ row_began q place h

-- it begins a row
pub record BeginsRow (q : Identity) (place : Place) (e : Entry) (h : List Entry) : Type 0 where
  pub row : row_began q place (e ∷ h) ≡ e.beat
  pub before : (f : Entry) → In f h → is_head place f.fact ≡ true → is_by q f.actor ≡ true → f.beat < e.beat

-- it gives the zone a new rate
pub record GivesRate (doc : Doc) (q : Identity) (place : Place) (e : Entry) (h : List Entry) : Type 0 where
  pub was : Rated
  pub is : rated q place h ≡ Some was
  pub since : base q place (e ∷ h) ≡ e.beat
  pub full : is_full doc q place (e ∷ h) ≡ is_there (is_full doc q place h) (local doc q.process e.beat - local doc q.process (base q place h)) (Some was)
  pub row : row_began q place (e ∷ h) ≡ row_began q place h
  pub before : (f : Entry) → In f h → is_head place f.fact ≡ true → is_by q f.actor ≡ true → f.beat < e.beat

pub data Effect (doc : Doc) (q : Identity) (place : Place) (e : Entry) (h : List Entry) : Type 0 where
  Leaves : (s : IsStill doc q place e h) → Effect doc q place e h
  Takes : (empty : is_full doc q place (e ∷ h) ≡ false) → Effect doc q place e h
  Begins : (s : BeginsRow q place e h) → Effect doc q place e h
  Changes : (s : GivesRate doc q place e h) → Effect doc q place e h
  Loses : (none : rated q place (e ∷ h) ≡ None) → Effect doc q place e h

abbrev pub last_new : Identity → Place → List Entry → Option ℕ
last_new q place = newest (λ e T. when (is_new_zone q place e.actor e.fact T) e.beat)

abbrev made : (k n : ℕ) → Actor → Fact → Entry
made k n who d = record { beat = k; step = n; actor = who; fact = d }

both : {A : Type 0} (F : Bool → Bool → A) (s b t c : Bool) → s ≡ t → b ≡ c → F s b ≡ F t c
both F s b t c p o = ap (λ s. F s b) p ∙ ap (F t) o

module _ (doc : Doc) (q : Identity) (place : Place) (k n : ℕ) (who : Actor) (h : List Entry) where
  zone_effect : (at : Place) (state : ZoneState) (rate : ℕ) → HeadsBefore k who h → Effect doc q place (made k n who (Ticks (Zone at state rate))) h
  zone_effect at state rate heads = by_tests (place_eq at place) (is_by q who) refl refl
    where
      rated_as : Bool → Bool → Option Rated
      rated_as s b = join (upper (when (s && b) (Some (state, rate))) (last_rated q place h))

      base_as : Bool → Bool → ℕ
      base_as s b = or_zero (upper (when (s && (b && not (has_rate rate (rated q place h)))) k) (base_of q place h))

      row_as : Bool → Bool → ℕ
      row_as s b = or_zero (upper (when ((s && b) && not (has (rated q place h))) k) (last_new q place h))

      filled : Option Rated → Bool
      filled o = fills_zone o (not (has_rate rate o)) (is_there (is_full doc q place h) (grown doc q k place h) o) (is_full doc q place h)

      full_as : Bool → Bool → Bool
      full_as s b = elim (s && b) [ true ↦ filled (rated q place h) | false ↦ is_full doc q place h ]

      by_rate : place_eq at place ≡ true → is_by q who ≡ true → (y : Rated) → rated q place h ≡ Some y → (same : Bool) → (y.1 == rate) ≡ same → Effect doc q place (made k n who (Ticks (Zone at state rate))) h
      by_rate p o y was true same = Leaves (record {
        rate = ap rate_or_zero (both rated_as (place_eq at place) (is_by q who) true true p o) ∙ sym (eqb-true y.1 rate same) ∙ sym (ap rate_or_zero was);
        zoned = ap has (both rated_as (place_eq at place) (is_by q who) true true p o) ∙ sym (ap has was);
        since = both base_as (place_eq at place) (is_by q who) true true p o
            ∙ ap (λ r. or_zero (upper (when (not (has_rate rate r)) k) (base_of q place h))) was ∙ ap (λ b. or_zero (upper (when (not b) k) (base_of q place h))) same;
        full = both full_as (place_eq at place) (is_by q who) true true p o ∙ ap filled was
            ∙ ap (λ b. fills_zone (Some y) (not b) (is_there (is_full doc q place h) (grown doc q k place h) (Some y)) (is_full doc q place h)) same;
        row = both row_as (place_eq at place) (is_by q who) true true p o ∙ ap (λ r. or_zero (upper (when (not (has r)) k) (last_new q place h))) was;
      })
      by_rate p o y was false other = Changes (record {
        was = y;
        is = was;
        since = both base_as (place_eq at place) (is_by q who) true true p o
            ∙ ap (λ r. or_zero (upper (when (not (has_rate rate r)) k) (base_of q place h))) was ∙ ap (λ b. or_zero (upper (when (not b) k) (base_of q place h))) other;
        full = both full_as (place_eq at place) (is_by q who) true true p o ∙ ap filled was
            ∙ ap (λ b. fills_zone (Some y) (not b) (is_there (is_full doc q place h) (grown doc q k place h) (Some y)) (is_full doc q place h)) other;
        row = both row_as (place_eq at place) (is_by q who) true true p o ∙ ap (λ r. or_zero (upper (when (not (has r)) k) (last_new q place h))) was;
        before = heads q o place;
      })

      own : place_eq at place ≡ true → is_by q who ≡ true → (r : Option Rated) → rated q place h ≡ r → Effect doc q place (made k n who (Ticks (Zone at state rate))) h
      own p o None was = Begins (record {
        row = both row_as (place_eq at place) (is_by q who) true true p o ∙ ap (λ r. or_zero (upper (when (not (has r)) k) (last_new q place h))) was;
        before = heads q o place;
      })
      own p o (Some y) was = by_rate p o y was (y.1 == rate) refl

      by_tests : (s b : Bool) → place_eq at place ≡ s → is_by q who ≡ b → Effect doc q place (made k n who (Ticks (Zone at state rate))) h
      by_tests true true p o = own p o (rated q place h) refl
      by_tests true false p o = Leaves (record {
        rate = ap rate_or_zero (both rated_as (place_eq at place) (is_by q who) true false p o);
        zoned = ap has (both rated_as (place_eq at place) (is_by q who) true false p o);
        since = both base_as (place_eq at place) (is_by q who) true false p o;
        full = both full_as (place_eq at place) (is_by q who) true false p o;
        row = both row_as (place_eq at place) (is_by q who) true false p o;
      })
      by_tests false b p o = Leaves (record {
        rate = ap rate_or_zero (both rated_as (place_eq at place) (is_by q who) false b p o);
        zoned = ap has (both rated_as (place_eq at place) (is_by q who) false b p o);
        since = both base_as (place_eq at place) (is_by q who) false b p o;
        full = both full_as (place_eq at place) (is_by q who) false b p o;
        row = both row_as (place_eq at place) (is_by q who) false b p o;
      })

  and_true : (b : Bool) → (b && true) ≡ b
  and_true true = refl
  and_true false = refl

  and_false : (b : Bool) → (b && false) ≡ false
  and_false true = refl
  and_false false = refl

  -- a turn, in whatever words
  abbrev Turned : Fact → Bool → Type 0
  Turned d s =
      (zone_rate q place (made k n who d ∷ h) ≡ zone_rate q place h)
      × (has (rated q place (made k n who d ∷ h)) ≡ has (rated q place h))
      × (base q place (made k n who d ∷ h) ≡ or_zero (upper (when (s && is_by q who) k) (base_of q place h)))
      × (is_full doc q place (made k n who d ∷ h) ≡ (is_full doc q place h && not (s && is_by q who)))
      × (row_began q place (made k n who d ∷ h) ≡ row_began q place h)

  turn_effect : (d : Fact) (s : Bool) → Turned d s → Effect doc q place (made k n who d) h
  turn_effect d s t = by_test (s && is_by q who) refl
    where
      by_test : (b : Bool) → (s && is_by q who) ≡ b → Effect doc q place (made k n who d) h
      by_test true is = Takes (t.3 ∙ ap (λ b. is_full doc q place h && not b) is ∙ and_false (is_full doc q place h))
      by_test false is = Leaves (record {
        rate = t.0;
        zoned = t.1;
        since = t.2 ∙ ap (λ b. or_zero (upper (when b k) (base_of q place h))) is;
        full = t.3 ∙ ap (λ b. is_full doc q place h && not b) is ∙ and_true (is_full doc q place h);
        row = t.4;
      })

  pass_effect : Effect doc q place (made k n who (Ticks Pass)) h
  pass_effect = by_tests (is_by q who) (is_zone q place h) refl refl
    where
      rated_as : Bool → Bool → Option Rated
      rated_as b z = join (upper (only_if b (when (not z) None)) (last_rated q place h))

      by_tests : (b z : Bool) → is_by q who ≡ b → is_zone q place h ≡ z → Effect doc q place (made k n who (Ticks Pass)) h
      by_tests true true o z = Leaves (record {
        rate = ap rate_or_zero (both rated_as (is_by q who) (is_zone q place h) true true o z);
        zoned = ap has (both rated_as (is_by q who) (is_zone q place h) true true o z);
        since = refl;
        full = refl;
        row = refl;
      })
      by_tests true false o z = Loses (both rated_as (is_by q who) (is_zone q place h) true false o z)
      by_tests false there o z = Leaves (record {
        rate = ap rate_or_zero (both rated_as (is_by q who) (is_zone q place h) false there o z);
        zoned = ap has (both rated_as (is_by q who) (is_zone q place h) false there o z);
        since = refl;
        full = refl;
        row = refl;
      })

  effect_of : (d : Fact) → ZoneFirst k who d h → Effect doc q place (made k n who d) h
  effect_of (Ticks (Zone at state rate)) first = zone_effect at state rate first
  effect_of (Ticks (Head at name wanted given node answer)) first = turn_effect (Ticks (Head at name wanted given node answer)) (place_eq at place) (refl, refl, refl, refl, refl)
  effect_of (Ticks (Skip at name)) first = turn_effect (Ticks (Skip at name)) (place_eq at place) (refl, refl, refl, refl, refl)
  effect_of (Ticks Pass) first = pass_effect
  effect_of d first = Leaves (record { rate = refl; zoned = refl; since = refl; full = refl; row = refl })

pub effect : (doc : Doc) (q : Identity) (place : Place) (e : Entry) (h : List Entry) → ZoneFirst e.beat e.actor e.fact h → Effect doc q place e h
effect doc q place e h first = effect_of doc q place e.beat e.step e.actor h e.fact first

-- after an own turn of the zone its bucket isn't full
pub turn_empties : (doc : Doc) (q : Identity) (place : Place) (e : Entry) (h : List Entry) → is_head place e.fact ≡ true → is_by q e.actor ≡ true → is_full doc q place (e ∷ h) ≡ false
turn_empties doc q place e h head own = cases e.fact head
  where
    taken : (full s b : Bool) → s ≡ true → b ≡ true → (full && not (s && b)) ≡ false
    taken full s b p o = both (λ s b. full && not (s && b)) s b true true p o ∙ by_full full
      where
        by_full : (full : Bool) → (full && false) ≡ false
        by_full true = refl
        by_full false = refl

    -- the history with this entry, whatever its beat
    cases : (d : Fact) → is_head place d ≡ true → is_full doc q place (record { beat = e.beat; step = e.step; actor = e.actor; fact = d } ∷ h) ≡ false
    cases (Ticks (Head at name wanted given node answer)) head = taken (is_full doc q place h) (place_eq at place) (is_by q e.actor) head own
    cases (Ticks (Skip at name)) head = taken (is_full doc q place h) (place_eq at place) (is_by q e.actor) head own
    cases d head = absurd (cc)
