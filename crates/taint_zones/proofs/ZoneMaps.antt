-- Queues of zones after one of them changed.
use Rattle.std.proofs.Common.{◌≡◌, ◌∙◌, ℕ, ◌==◌, ◌&&◌, Bool, true, false, cond, Option, Some, None, refl, sym, ap, subst, unwrap_or, IsSome, arith}
use Rattle.std.proofs.lemmas.Bool.{both_ways}
use Rattle.std.proofs.lemmas.Cmp.{nat_cmp_total, on_total, then_total}
use Rattle.std.specs.BTreeMap.{BTreeMap, IsLowerBound, get, Updates}
use Rattle.std.specs.Cmp.{IsTotalOrder}
use Rattle.std.specs.Ordering.{nat_cmp, is_eq, is_gt, is_lt, ordering_reverse, ordering_then}
use Rattle.std.specs.declared.cmp.Ordering.{Ordering}
use Rattle.std.specs.declared.cmp.Ordering.TheVariants.{Less, Equal, Greater}
use Rattle.std.proofs.lemmas.Bool.Decides.{nat_tests}
use Rattle.kube_base.specs.declared.numbers.Beat.{Beat}
use Rattle.taint_queue.specs.Queue.{waits_since}
use Rattle.taint_queue.specs.declared.queue.Queue.{Queue}
use Rattle.taint_zones.specs.declared.place.Place.{Place}
use Rattle.taint_zones.specs.declared.queues.Queues.{Queues}
use Rattle.taint_zones.specs.Homes.{beat_number, since_in, since_at}
use Rattle.taint_zones.specs.Places.{zone_cmp, zone_eq}
use Rattle.taint_zones.specs.Waiting.{IsNextPlace, IsNextZone}

number_same : (a b : ℕ) → nat_cmp a b ≡ Equal → a ≡ b
number_same a b is = grind (arith, nat_tests)

then_equal : (o p : Ordering) → is_eq (ordering_then o p) ≡ true → (o ≡ Equal) × (p ≡ Equal)
then_equal Less p is = absurd (cc)
then_equal Equal Less is = absurd (cc)
then_equal Equal Equal is = (refl, refl)
then_equal Equal Greater is = absurd (cc)
then_equal Greater p is = absurd (cc)

pub same_zone : (a b : Place) → zone_eq a b ≡ true → a ≡ b
same_zone a b is = joined (number_same a.region b.region parts.0) (number_same a.zone b.zone parts.1)
  where
    parts : (nat_cmp a.region b.region ≡ Equal) × (nat_cmp a.zone b.zone ≡ Equal)
    parts = then_equal (nat_cmp a.region b.region) (nat_cmp a.zone b.zone) is

    joined : a.region ≡ b.region → a.zone ≡ b.zone → a ≡ b
    joined region zone = λ i. record { region = region i; zone = zone i }

-- one queue changed at one node
module _ (zones new : BTreeMap Place Queue) (place : Place) (node : ℕ) (turn : Option Beat → Option Beat) (makes : Option ℕ → Option ℕ)
    (agree : (o : Option Beat) → beat_number (turn o) ≡ makes (beat_number o)) where
  pub changed : (old queue : Queue) → get zone_cmp zones place ≡ Some old → Updates zone_cmp zones new place (Some queue)
      → ((other : ℕ) → waits_since queue other ≡ cond (node == other) (turn (waits_since old node)) (waits_since old other))
      → (zone : Place) (other : ℕ) → since_at new zone other ≡ cond (node == other && zone_eq place zone) (makes (since_at zones zone node)) (since_at zones zone other)
  changed old queue found u now zone other = ap (λ o. since_in o other) (u.0 zone) ∙ by_zone (zone_eq place zone) refl
    where
      was : (n : ℕ) → since_at zones place n ≡ beat_number (waits_since old n)
      was n = ap (λ o. since_in o n) found

      by_node : (b : Bool) → beat_number (cond b (turn (waits_since old node)) (waits_since old other)) ≡ cond (b && true) (makes (since_at zones place node)) (since_at zones place other)
      by_node true = agree (waits_since old node) ∙ ap makes (sym (was node))
      by_node false = sym (was other)

      and_false : (b : Bool) (x y : Option ℕ) → y ≡ cond (b && false) x y
      and_false true x y = refl
      and_false false x y = refl

      by_zone : (b : Bool) → zone_eq place zone ≡ b → since_in (cond b (Some queue) (get zone_cmp zones zone)) other ≡ cond (node == other && b) (makes (since_at zones zone node)) (since_at zones zone other)
      by_zone true is =
          subst (λ z. beat_number (waits_since queue other) ≡ cond (node == other && true) (makes (since_at zones z node)) (since_at zones z other)) (same_zone place zone is)
          (ap beat_number (now other) ∙ by_node (node == other))
      by_zone false is = and_false (node == other) (makes (since_at zones zone node)) (since_at zones zone other)

  -- where there is none, nothing changes, if nobody's turn gives nothing
  pub absent : get zone_cmp zones place ≡ None → makes None ≡ None → ((zone : Place) → get zone_cmp new zone ≡ get zone_cmp zones zone)
      → (zone : Place) (other : ℕ) → since_at new zone other ≡ cond (node == other && zone_eq place zone) (makes (since_at zones zone node)) (since_at zones zone other)
  absent none nothing same zone other = ap (λ o. since_in o other) (same zone) ∙ by_zone (zone_eq place zone) refl (node == other)
    where
      by_zone : (b : Bool) → zone_eq place zone ≡ b → (c : Bool) → since_at zones zone other ≡ cond (c && b) (makes (since_at zones zone node)) (since_at zones zone other)
      by_zone false is true = refl
      by_zone false is false = refl
      by_zone true is false = refl
      by_zone true is true =
          subst (λ z. since_at zones z other ≡ makes (since_at zones z node)) (same_zone place zone is)
          (ap (λ o. since_in o other) none ∙ sym nothing ∙ ap makes (sym (ap (λ o. since_in o node) none)))

-- a queue that was missing begins with one node
pub begun : (zones before new : BTreeMap Place Queue) (place : Place) (node at : ℕ) (queue : Queue) → before ≡ zones → Updates zone_cmp before new place (Some queue)
    → get zone_cmp zones place ≡ None → ((other : ℕ) → beat_number (waits_since queue other) ≡ cond (node == other) (Some at) None)
    → (zone : Place) (other : ℕ) → since_at new zone other ≡ cond (node == other && zone_eq place zone) (Some (unwrap_or (since_at zones zone node) at)) (since_at zones zone other)
begun zones before new place node at queue same u none now zone other =
    ap (λ o. since_in o other) ((subst (λ m. Updates zone_cmp m new place (Some queue)) same u).0 zone) ∙ by_zone (zone_eq place zone) refl
  where
    was : (n : ℕ) → since_at zones place n ≡ None
    was n = ap (λ o. since_in o n) none

    by_node : (b : Bool) → cond b (Some at) None ≡ cond (b && true) (Some (unwrap_or (since_at zones place node) at)) (since_at zones place other)
    by_node true = ap (λ o. Some (unwrap_or o at)) (sym (was node))
    by_node false = sym (was other)

    and_false : (b : Bool) (x y : Option ℕ) → y ≡ cond (b && false) x y
    and_false true x y = refl
    and_false false x y = refl

    by_zone : (b : Bool) → zone_eq place zone ≡ b
        → since_in (cond b (Some queue) (get zone_cmp zones zone)) other ≡ cond (node == other && b) (Some (unwrap_or (since_at zones zone node) at)) (since_at zones zone other)
    by_zone true is =
        subst (λ z. beat_number (waits_since queue other) ≡ cond (node == other && true) (Some (unwrap_or (since_at zones z node) at)) (since_at zones z other)) (same_zone place zone is)
        (now other ∙ by_node (node == other))
    by_zone false is = and_false (node == other) (Some (unwrap_or (since_at zones zone node) at)) (since_at zones zone other)

-- one queue is as before
pub kept : (zones new : BTreeMap Place Queue) (place : Place) (old queue : Queue) → get zone_cmp zones place ≡ Some old → Updates zone_cmp zones new place (Some queue)
    → ((other : ℕ) → waits_since queue other ≡ waits_since old other) → (zone : Place) (other : ℕ) → since_at new zone other ≡ since_at zones zone other
kept zones new place old queue found u now zone other = ap (λ o. since_in o other) (u.0 zone) ∙ by_zone (zone_eq place zone) refl
  where
    by_zone : (b : Bool) → zone_eq place zone ≡ b → since_in (cond b (Some queue) (get zone_cmp zones zone)) other ≡ since_at zones zone other
    by_zone true is =
        subst (λ z. beat_number (waits_since queue other) ≡ since_at zones z other) (same_zone place zone is)
        (ap beat_number (now other) ∙ sym (ap (λ o. since_in o other) found))
    by_zone false is = refl

number_itself : (a : ℕ) → nat_cmp a a ≡ Equal
number_itself a = grind (arith, nat_tests)

pub zone_itself : (a : Place) → zone_eq a a ≡ true
zone_itself a = ap (λ o. is_eq (ordering_then o (nat_cmp a.zone a.zone))) (number_itself a.region) ∙ ap is_eq (number_itself a.zone)

-- ---- the order of zones

zones_total : IsTotalOrder zone_cmp
zones_total = then_total (on_total (λ (p : Place). p.region) nat_cmp_total) (on_total (λ (p : Place). p.zone) nat_cmp_total)

less_is : (o : Ordering) → is_lt o ≡ true → o ≡ Less
less_is Less is = refl
less_is Equal is = absurd (cc)
less_is Greater is = absurd (cc)

above_first : (first zone : Place) → is_lt (zone_cmp zone first) ≡ true → is_gt (zone_cmp first zone) ≡ true
above_first first zone less = ap is_gt (zones_total.antisymm first zone ∙ ap ordering_reverse (less_is (zone_cmp zone first) less))

-- before the first of a map's zones there is none
pub none_before : {V : Type 0} (zones : BTreeMap Place V) (first : Place) → IsLowerBound zone_cmp zones first → (zone : Place) → is_lt (zone_cmp zone first) ≡ true
    → get zone_cmp zones zone ≡ None
none_before {V = V} zones first least zone less = by_value (get zone_cmp zones zone) refl
  where
    by_value : (o : Option V) → get zone_cmp zones zone ≡ o → o ≡ None
    by_value None is = refl
    by_value (Some x) is = absurd (both_ways (is_gt (zone_cmp first zone)) (least zone (subst IsSome (sym is) refl)) (above_first first zone less))

-- where the map has nothing nobody waits
pub next_waits : (queues : Queues) (after next : Option Place) → IsNextPlace queues.zones after next → IsNextZone queues after next
next_waits queues after None none = λ zone later node. ap (λ o. since_in o node) (none zone later)
next_waits queues after (Some next) is = (is.0, λ zone later less node. ap (λ o. since_in o node) (is.1 zone later less))
