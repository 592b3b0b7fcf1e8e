-- Bases by rows of rates.
use Rattle.std.proofs.Common.{◌≡◌, ℕ, ◌==◌, ◌&&◌, not, Bool, true, false, List, [], ◌∷◌, Option, Some, None, option_map, refl, sym, ap, ◌∙◌}
use Rattle.std.proofs.lemmas.Bool.{eqb-true, eq-eqb}
use Rattle.kube_objects.specs.declared.deed.Actor.{Actor}
use Rattle.kube_objects.specs.declared.node.ZoneState.{ZoneState}
use Rattle.kube_objects.specs.Entry.{Entry, Identity, Place, Fact, Ticks, Pass, Zone}
use Rattle.kube_objects.specs.Identities.{is_by}
use Rattle.kube_objects.specs.Modes.{place_eq}
use Rattle.kube_objects.specs.Newest.{newest, when, only_if, join, or_else}
use Rattle.kube_objects.specs.Tokens.{Rated, is_zone, rated_says, rated, has_rate, is_base}
use Rattle.history_laws.proofs.Plainly.{upper, none_is, some_is, true_is}
use Rattle.row_laws.specs.Bases.{rates, is_head_of, BasesAreOfRows}
use Rattle.row_laws.specs.Rows.{holds_now}
use Rattle.row_laws.proofs.Rows.{latest_of_row}

-- what the newest entry says, read by a test
newest_map : (f : Entry → List Entry → Option (Option Rated)) (rate : ℕ) (h : List Entry) → newest (λ e T. option_map (has_rate rate) (f e T)) h ≡ option_map (has_rate rate) (newest f h)
newest_map f rate [] = refl
newest_map f rate (e ∷ h) = ap (upper (option_map (has_rate rate) (f e h))) (newest_map f rate h) ∙ by_says (f e h)
  where
    by_says : (o : Option (Option Rated)) → upper (option_map (has_rate rate) o) (option_map (has_rate rate) (newest f h)) ≡ option_map (has_rate rate) (upper o (newest f h))
    by_says None = refl
    by_says (Some x) = refl

module _ (q : Identity) (place : Place) (rate : ℕ) where
  -- the row holds where the zone has the rate
  holds_is : (h : List Entry) → holds_now (rates q place rate) h ≡ has_rate rate (rated q place h)
  holds_is h = ap (or_else false) (newest_map (λ e T. rated_says q place e.actor e.fact T) rate h) ∙ by_newest (newest (λ e T. rated_says q place e.actor e.fact T) h)
    where
      by_newest : (o : Option (Option Rated)) → or_else false (option_map (has_rate rate) o) ≡ has_rate rate (join o)
      by_newest None = refl
      by_newest (Some x) = refl

  -- a zone's entry with another rate than before, or where it was no zone
  first_zone : (who : Actor) (at : Place) (state : ZoneState) (r : ℕ) (T : List Entry) → option_map (has_rate rate) (when (place_eq at place && is_by q who) (Some (state, r))) ≡ Some true
      → has_rate rate (rated q place T) ≡ false → (place_eq at place && (is_by q who && not (has_rate r (rated q place T)))) ≡ true
  first_zone who at state r T is new = by_tests (place_eq at place) (is_by q who) is
    where
      by_tests : (a b : Bool) → option_map (has_rate rate) (when (a && b) (Some (state, r))) ≡ Some true → (a && (b && not (has_rate r (rated q place T)))) ≡ true
      by_tests true true is =
          let same : r ≡ rate = eqb-true r rate (some_is (r == rate) true is) in
          ap (λ n. not (has_rate n (rated q place T))) same ∙ ap not new
      by_tests true false is = absurd (none_is true is)
      by_tests false b is = absurd (none_is true is)

  first_pass : (who : Actor) (none : Bool) → option_map (has_rate rate) (only_if (is_by q who) (when none None)) ≡ Some true → ⊥
  first_pass who none is = by_tests (is_by q who) none is
    where
      by_tests : (a b : Bool) → option_map (has_rate rate) (only_if a (when b None)) ≡ Some true → ⊥
      by_tests true true is = true_is (sym (some_is false true is))
      by_tests true false is = none_is true is
      by_tests false b is = none_is true is

  first_base : (who : Actor) (d : Fact) (T : List Entry) → option_map (has_rate rate) (rated_says q place who d T) ≡ Some true → has_rate rate (rated q place T) ≡ false → is_base q place who d T ≡ true
  first_base who (Ticks (Zone at state r)) T is new = first_zone who at state r T is new
  first_base who (Ticks Pass) T is new = absurd (first_pass who (not (is_zone q place T)) is)
  first_base who d T is new = absurd (none_is true is)

  -- an entry that leaves the rate
  same_zone : (who : Actor) (at : Place) (state : ZoneState) (r : ℕ) (T : List Entry) → has_rate rate (rated q place T) ≡ true
      → ¬ (option_map (has_rate rate) (when (place_eq at place && is_by q who) (Some (state, r))) ≡ Some false) → (place_eq at place && (is_by q who && not (has_rate r (rated q place T)))) ≡ false
  same_zone who at state r T held on = by_tests (place_eq at place) (is_by q who) on
    where
      by_rate : (b : Bool) → (r == rate) ≡ b → ¬ (Some b ≡ Some false) → not (has_rate r (rated q place T)) ≡ false
      by_rate true is on = let same : r ≡ rate = eqb-true r rate is in ap (λ n. not (has_rate n (rated q place T))) same ∙ ap not held
      by_rate false is on = absurd (on refl)

      by_tests : (a b : Bool) → ¬ (option_map (has_rate rate) (when (a && b) (Some (state, r))) ≡ Some false) → (a && (b && not (has_rate r (rated q place T)))) ≡ false
      by_tests true true on = by_rate (r == rate) refl on
      by_tests true false on = refl
      by_tests false b on = refl

  later_base : (who : Actor) (d : Fact) (T : List Entry) → has_rate rate (rated q place T) ≡ true → ¬ (option_map (has_rate rate) (rated_says q place who d T) ≡ Some false) → is_base q place who d T ≡ is_head_of q place who d
  later_base who (Ticks (Zone at state r)) T held on = same_zone who at state r T held on
  later_base who d T held on = refl

pub bases_are_of_rows : BasesAreOfRows
bases_are_of_rows q place h x is =
    latest_of_row (rates q place x.1) (λ e T. is_base q place e.actor e.fact T) (λ e T. is_head_of q place e.actor e.fact)
    (λ e T says new. first_base q place x.1 e.actor e.fact T says (sym (holds_is q place x.1 T) ∙ new))
    (λ e T held on. later_base q place x.1 e.actor e.fact T (sym (holds_is q place x.1 T) ∙ held) on)
    h (holds_is q place x.1 h ∙ ap (has_rate x.1) is ∙ eq-eqb x.1 x.1 refl)
