-- Pushes of zones after one zone's changed.
use Rattle.std.proofs.Common.{◌≡◌, ◌∙◌, ℕ, ◌==◌, ◌&&◌, ◌||◌, not, Bool, true, false, cond, List, [], ◌∷◌, ◌++◌, Option, Some, None, refl, sym, ap, filter}
use Rattle.std.proofs.lemmas.Map.Entries.{lookup-filter-keys}
use Rattle.std.specs.BTreeMap.{BTreeMap, get, is_at, Updates}
use Rattle.std.specs.Map.{lookup}
use Rattle.kube_objects.specs.Judgement.{holds_name, taken}
use Rattle.taint_queue.specs.declared.pushes.Pushes.{Pushes}
use Rattle.taint_queue.specs.Pushed.{counts_in, names}
use Rattle.taint_zones.specs.declared.place.Place.{Place}
use Rattle.taint_zones.specs.declared.pushes.ZonePushes.{ZonePushes}
use Rattle.taint_zones.specs.Places.{zone_cmp, zone_eq}
use Rattle.taint_zones.specs.Pushing.{IsNextPushed, counts_of, names_of}
use Rattle.taint_zones.specs.Waiting.{IsNextPlace}
use Rattle.taint_zones.proofs.ZoneMaps.{same_zone}

-- what is read of each zone, where the pushes of one changed
module _ {A : Type 0} (read makes : Option Pushes → A) (zones new : BTreeMap Place Pushes) (place : Place) where
  pub changed : (old now : Pushes) → get zone_cmp zones place ≡ Some old → Updates zone_cmp zones new place (Some now) → read (Some now) ≡ makes (Some old)
      → (zone : Place) → read (get zone_cmp new zone) ≡ cond (zone_eq place zone) (makes (get zone_cmp zones zone)) (read (get zone_cmp zones zone))
  changed old now found u is zone = ap read (u.0 zone) ∙ by_zone (zone_eq place zone) refl
    where
      by_zone : (b : Bool) → zone_eq place zone ≡ b → read (cond b (Some now) (get zone_cmp zones zone)) ≡ cond b (makes (get zone_cmp zones zone)) (read (get zone_cmp zones zone))
      by_zone true same = is ∙ ap makes (sym found ∙ ap (get zone_cmp zones) (same_zone place zone same))
      by_zone false same = refl

  -- a zone without pushes is as before
  pub absent : get zone_cmp zones place ≡ None → ((zone : Place) → get zone_cmp new zone ≡ get zone_cmp zones zone) → read None ≡ makes None
      → (zone : Place) → read (get zone_cmp new zone) ≡ cond (zone_eq place zone) (makes (get zone_cmp zones zone)) (read (get zone_cmp zones zone))
  absent none as_before is zone = ap read (as_before zone) ∙ by_zone (zone_eq place zone) refl
    where
      gone : place ≡ zone → get zone_cmp zones zone ≡ None
      gone same = ap (get zone_cmp zones) (sym same) ∙ none

      by_zone : (b : Bool) → zone_eq place zone ≡ b → read (get zone_cmp zones zone) ≡ cond b (makes (get zone_cmp zones zone)) (read (get zone_cmp zones zone))
      by_zone true same = ap read (gone (same_zone place zone same)) ∙ is ∙ ap makes (sym (gone (same_zone place zone same)))
      by_zone false same = refl

-- ---- choices

pub both : {A : Type 0} (b c : Bool) (x y : A) → cond b (cond c x y) y ≡ cond (b && c) x y
both true c x y = refl
both false c x y = refl

pub either : (b c d : Bool) → cond b (c || d) d ≡ (b && c || d)
either true c d = refl
either false c d = refl

pub neither : (b c d : Bool) → cond b (cond c false d) d ≡ (not (b && c) && d)
neither true true d = refl
neither true false d = refl
neither false c d = refl

pub same_both : {A : Type 0} (b : Bool) (x : A) → cond b x x ≡ x
same_both true x = refl
same_both false x = refl

pub kept_or_none : (b d : Bool) → cond b d false ≡ (b && d)
kept_or_none true d = refl
kept_or_none false d = refl

-- ---- the first push of a node is made, whatever is asked for

pub first_push : (anew again : Bool) (node : ℕ) → ((anew || not false) && (again || not (holds_name node []))) ≡ true
first_push true true node = refl
first_push true false node = refl
first_push false true node = refl
first_push false false node = refl

-- ---- a head's turn

pub turn : (zones new : BTreeMap Place Pushes) (place : Place) (old now : Pushes) → get zone_cmp zones place ≡ Some old → Updates zone_cmp zones new place (Some now)
    → ((node : ℕ) (rest : List ℕ) → names old ≡ node ∷ rest → names now ≡ taken (counts_in old node) (names old))
    → (zone : Place) (node : ℕ) (rest : List ℕ) → names_of (get zone_cmp zones zone) ≡ node ∷ rest
    → names_of (get zone_cmp new zone) ≡ cond (zone_eq place zone) (taken (counts_of (get zone_cmp zones zone) node) (names_of (get zone_cmp zones zone))) (names_of (get zone_cmp zones zone))
turn zones new place old now found u some zone node rest is = ap names_of (u.0 zone) ∙ by_zone (zone_eq place zone) refl
  where
    at : place ≡ zone → get zone_cmp zones zone ≡ Some old
    at same = ap (get zone_cmp zones) (sym same) ∙ found

    by_zone : (b : Bool) → zone_eq place zone ≡ b → names_of (cond b (Some now) (get zone_cmp zones zone))
        ≡ cond b (taken (counts_of (get zone_cmp zones zone) node) (names_of (get zone_cmp zones zone))) (names_of (get zone_cmp zones zone))
    by_zone true same =
        some node rest (sym (ap names_of (at (same_zone place zone same))) ∙ is) ∙ ap (λ o. taken (counts_of o node) (names_of o)) (sym (at (same_zone place zone same)))
    by_zone false same = refl

pub no_turn : (zones new : BTreeMap Place Pushes) (place : Place) (old now : Pushes) → get zone_cmp zones place ≡ Some old → Updates zone_cmp zones new place (Some now)
    → (names old ≡ [] → names now ≡ []) → (zone : Place) → names_of (get zone_cmp zones zone) ≡ [] → names_of (get zone_cmp new zone) ≡ []
no_turn zones new place old now found u none zone is = ap names_of (u.0 zone) ∙ by_zone (zone_eq place zone) refl
  where
    by_zone : (b : Bool) → zone_eq place zone ≡ b → names_of (cond b (Some now) (get zone_cmp zones zone)) ≡ []
    by_zone true same = none (sym (ap names_of (ap (get zone_cmp zones) (sym (same_zone place zone same)) ∙ found)) ∙ is)
    by_zone false same = is

-- where the map has nothing there is no push
pub next_pushed : (pushes : ZonePushes) (after next : Option Place) → IsNextPlace pushes.zones after next → IsNextPushed pushes after next
next_pushed pushes after None none = λ zone later. ap names_of (none zone later)
next_pushed pushes after (Some next) is = (is.0, λ zone later less. ap names_of (is.1 zone later less))

pub turn_absent : (zones new : BTreeMap Place Pushes) (place : Place) → get zone_cmp zones place ≡ None → ((zone : Place) → get zone_cmp new zone ≡ get zone_cmp zones zone)
    → (zone : Place) (node : ℕ) (rest : List ℕ) → names_of (get zone_cmp zones zone) ≡ node ∷ rest
    → names_of (get zone_cmp new zone) ≡ cond (zone_eq place zone) (taken (counts_of (get zone_cmp zones zone) node) (names_of (get zone_cmp zones zone))) (names_of (get zone_cmp zones zone))
turn_absent zones new place none as_before zone node rest is =
    absent names_of (λ o. taken (counts_of o node) (names_of o)) zones new place none as_before refl zone

-- ---- a zone's first push

pub begun : {A : Type 0} (read : Option Pushes → A) (makes : A) (zones new : BTreeMap Place Pushes) (place : Place) (now : Pushes) → Updates zone_cmp zones new place (Some now)
    → read (Some now) ≡ makes → (zone : Place) → read (get zone_cmp new zone) ≡ cond (zone_eq place zone) makes (read (get zone_cmp zones zone))
begun read makes zones new place now u is zone = ap read (u.0 zone) ∙ by_zone (zone_eq place zone)
  where
    by_zone : (b : Bool) → read (cond b (Some now) (get zone_cmp zones zone)) ≡ cond b makes (read (get zone_cmp zones zone))
    by_zone true = is
    by_zone false = refl

-- the queue of a zone that had none
pub alone : (node : ℕ) (anew again : Bool) (old now : Pushes) → names old ≡ [] → counts_in old node ≡ false
    → names now ≡ cond ((anew || not (counts_in old node)) && (again || not (holds_name node (names old)))) (names old ++ node ∷ []) (names old) → names now ≡ node ∷ []
alone node anew again old now empty uncounted is =
    is
    ∙ ap (λ b. cond ((anew || not b) && (again || not (holds_name node (names old)))) (names old ++ node ∷ []) (names old)) uncounted
    ∙ ap (λ ns. cond ((anew || not false) && (again || not (holds_name node ns))) (ns ++ node ∷ []) ns) empty
    ∙ ap (λ b. cond b (node ∷ []) []) (first_push anew again node)

-- what counts there
pub alone_counts : (zones new : BTreeMap Place Pushes) (place : Place) (node other : ℕ) (now : Pushes) → get zone_cmp zones place ≡ None → Updates zone_cmp zones new place (Some now)
    → counts_in now other ≡ (node == other) → (zone : Place) → counts_of (get zone_cmp new zone) other ≡ (zone_eq place zone && (node == other) || counts_of (get zone_cmp zones zone) other)
alone_counts zones new place node other now none u is zone = ap (λ o. counts_of o other) (u.0 zone) ∙ by_zone (zone_eq place zone) refl
  where
    or_false : (b : Bool) → b ≡ (b || false)
    or_false true = refl
    or_false false = refl

    by_zone : (b : Bool) → zone_eq place zone ≡ b → counts_of (cond b (Some now) (get zone_cmp zones zone)) other ≡ (b && (node == other) || counts_of (get zone_cmp zones zone) other)
    by_zone true same =
        is ∙ or_false (node == other) ∙ ap (λ o. (node == other) || counts_of o other) (sym (ap (get zone_cmp zones) (sym (same_zone place zone same)) ∙ none))
    by_zone false same = refl

-- a zone that had no queue gets one
pub wanted_anew : (zones before : BTreeMap Place Pushes) (place : Place) (node : ℕ) (anew again : Bool) → before ≡ zones → get zone_cmp zones place ≡ None → (zone : Place)
    → cond (zone_eq place zone) (node ∷ []) (names_of (get zone_cmp before zone))
    ≡ cond (zone_eq place zone && ((anew || not (counts_of (get zone_cmp zones zone) node)) && (again || not (holds_name node (names_of (get zone_cmp zones zone))))))
    (names_of (get zone_cmp zones zone) ++ node ∷ []) (names_of (get zone_cmp zones zone))
wanted_anew zones before place node anew again same none zone = ap (λ m. cond (zone_eq place zone) (node ∷ []) (names_of (get zone_cmp m zone))) same ∙ by_zone (zone_eq place zone) refl
  where
    asked : Option Pushes → List ℕ
    asked o = cond ((anew || not (counts_of o node)) && (again || not (holds_name node (names_of o)))) (names_of o ++ node ∷ []) (names_of o)

    by_zone : (b : Bool) → zone_eq place zone ≡ b → cond b (node ∷ []) (names_of (get zone_cmp zones zone))
        ≡ cond (b && ((anew || not (counts_of (get zone_cmp zones zone) node)) && (again || not (holds_name node (names_of (get zone_cmp zones zone))))))
        (names_of (get zone_cmp zones zone) ++ node ∷ []) (names_of (get zone_cmp zones zone))
    by_zone true is = sym (ap asked (ap (get zone_cmp zones) (sym (same_zone place zone is)) ∙ none) ∙ ap (λ b. cond b (node ∷ []) []) (first_push anew again node))
    by_zone false is = refl

-- ---- zones are forgotten

pub forgotten : {A : Type 0} (read : Option Pushes → A) (zones new : BTreeMap Place Pushes) (keeps : Place → Bool) → new.entries ≡ filter (λ e. keeps e.0) zones.entries
    → (zone : Place) → read (get zone_cmp new zone) ≡ cond (keeps zone) (read (get zone_cmp zones zone)) (read None)
forgotten read zones new keeps is zone =
    ap (λ es. read (lookup (is_at (zone_cmp zone)) es)) is
    ∙ ap read (lookup-filter-keys (is_at (zone_cmp zone)) keeps (keeps zone) (λ k same. ap keeps (sym (same_zone zone k same))) zones.entries)
    ∙ by_zone (keeps zone)
  where
    by_zone : (b : Bool) → read (cond b (get zone_cmp zones zone) None) ≡ cond b (read (get zone_cmp zones zone)) (read None)
    by_zone true = refl
    by_zone false = refl
