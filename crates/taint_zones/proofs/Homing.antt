-- Nodes and the zones in which they wait.
use Rattle.std.proofs.Common.{◌≡◌, ◌∙◌, ℕ, ◌==◌, ◌&&◌, not, Bool, true, false, cond, Option, Some, None, refl, sym, ap, subst, unwrap_or, Result, Ok, Err, arith}
use Rattle.std.specs.Result.{OnOk, OnErr}
use Rattle.std.proofs.lemmas.Bool.{eqb-true, eq-eqb}
use Rattle.std.proofs.lemmas.Bool.Decides.{nat_tests}
use Rattle.std.specs.BTreeMap.{BTreeMap, get, is_at}
use Rattle.std.specs.Map.{lookup}
use Rattle.std.specs.Option.{option_map}
use Rattle.std.specs.Ordering.{nat_cmp, is_eq}
use Rattle.std.specs.declared.cmp.Ordering.{Ordering}
use Rattle.std.specs.declared.cmp.Ordering.TheVariants.{Less, Equal, Greater}
use Rattle.taint_queue.specs.declared.queue.Queue.{Queue}
use Rattle.taint_zones.specs.declared.place.Place.{Place}
use Rattle.taint_zones.specs.Homes.{AreHome, since_at}
use Rattle.taint_zones.specs.Places.{zone_eq}
use Rattle.taint_zones.specs.Waiting.{is_place, moved_in}
use Rattle.taint_zones.proofs.ZoneMaps.{same_zone, zone_itself}

pub none_is : {A : Type 0} (x : A) → ◌≡◌ {A = Option A} None (Some x) → ⊥
none_is x is = cc

pub some_is : {A : Type 0} (x y : A) → ◌≡◌ {A = Option A} (Some x) (Some y) → x ≡ y
some_is x y is = cc

pub false_is : false ≡ true → ⊥
false_is is = cc

module _ (zones new : BTreeMap Place Queue) (homes : BTreeMap ℕ Place) (home : AreHome zones homes) (node : ℕ) where
  -- a node without a zone waits nowhere, and one with a zone in no other
  pub nowhere : get nat_cmp homes node ≡ None → (zone : Place) → since_at zones zone node ≡ None
  nowhere none zone = by_since (since_at zones zone node) refl
    where
      by_since : (o : Option ℕ) → since_at zones zone node ≡ o → o ≡ None
      by_since None is = refl
      by_since (Some at) is = absurd (none_is zone (sym none ∙ home zone node at is))

  pub not_there : (place : Place) → get nat_cmp homes node ≡ Some place → (zone : Place) → zone_eq place zone ≡ false → since_at zones zone node ≡ None
  not_there place here zone apart = by_since (since_at zones zone node) refl
    where
      by_since : (o : Option ℕ) → since_at zones zone node ≡ o → o ≡ None
      by_since None is = refl
      by_since (Some at) is = absurd (false_is (sym apart ∙ ap (zone_eq place) (sym (some_is place zone (sym here ∙ home zone node at is))) ∙ zone_itself place))

  pub left : (place : Place) → get nat_cmp homes node ≡ Some place
      → ((zone : Place) (other : ℕ) → since_at new zone other ≡ cond (node == other && zone_eq place zone) None (since_at zones zone other))
      → (zone : Place) (other : ℕ) → since_at new zone other ≡ cond (node == other) None (since_at zones zone other)
  left place here now zone other = now zone other ∙ by_node (node == other) refl (zone_eq place zone) refl
    where
      by_node : (b : Bool) → (node == other) ≡ b → (c : Bool) → zone_eq place zone ≡ c → cond (b && c) None (since_at zones zone other) ≡ cond b None (since_at zones zone other)
      by_node false is c at = refl
      by_node true is true at = refl
      by_node true is false at = subst (λ n. since_at zones zone n ≡ None) (eqb-true node other is) (not_there place here zone at)

  pub not_waiting : get nat_cmp homes node ≡ None → (zone : Place) (other : ℕ) → since_at zones zone other ≡ cond (node == other) None (since_at zones zone other)
  not_waiting none zone other = by_node (node == other) refl
    where
      by_node : (b : Bool) → (node == other) ≡ b → since_at zones zone other ≡ cond b None (since_at zones zone other)
      by_node false is = refl
      by_node true is = subst (λ n. since_at zones zone n ≡ None) (eqb-true node other is) (nowhere none zone)

  -- at its home already
  pub stays : (place : Place) → get nat_cmp homes node ≡ Some place → (zone : Place) (other : ℕ)
      → since_at zones zone other ≡ cond (node == other && not (zone_eq place zone)) None (since_at zones zone other)
  stays place here zone other = by_node (node == other) refl (zone_eq place zone) refl
    where
      by_node : (b : Bool) → (node == other) ≡ b → (c : Bool) → zone_eq place zone ≡ c → since_at zones zone other ≡ cond (b && not c) None (since_at zones zone other)
      by_node false is c at = refl
      by_node true is true at = refl
      by_node true is false at = subst (λ n. since_at zones zone n ≡ None) (eqb-true node other is) (not_there place here zone at)

  -- ---- homes stay homes

  pub home_left : ((zone : Place) (other : ℕ) → since_at new zone other ≡ cond (node == other) None (since_at zones zone other)) → AreHome new homes
  home_left now zone other at is = by_node (node == other) (sym (now zone other) ∙ is)
    where
      by_node : (b : Bool) → cond b None (since_at zones zone other) ≡ Some at → get nat_cmp homes other ≡ Some zone
      by_node true is = absurd (none_is at is)
      by_node false is = home zone other at is

  pub home_back : (place : Place) (beat : ℕ) → ((zone : Place) (other : ℕ) → since_at new zone other
      ≡ cond (node == other && zone_eq place zone) (option_map (λ _. beat) (since_at zones zone node)) (since_at zones zone other)) → AreHome new homes
  home_back place beat now zone other at is = by_node (node == other) refl (zone_eq place zone) (sym (now zone other) ∙ is)
    where
      by_since : (o : Option ℕ) → since_at zones zone node ≡ o → option_map (λ _. beat) o ≡ Some at → get nat_cmp homes node ≡ Some zone
      by_since None was is = absurd (none_is at is)
      by_since (Some b) was is = home zone node b was

      by_node : (b : Bool) → (node == other) ≡ b → (c : Bool) → cond (b && c) (option_map (λ _. beat) (since_at zones zone node)) (since_at zones zone other) ≡ Some at → get nat_cmp homes other ≡ Some zone
      by_node false same c is = home zone other at is
      by_node true same false is = home zone other at is
      by_node true same true is = subst (λ n. get nat_cmp homes n ≡ Some zone) (eqb-true node other same) (by_since (since_at zones zone node) refl is)

  pub home_want : (place : Place) (beat : ℕ) → get nat_cmp homes node ≡ Some place → ((zone : Place) (other : ℕ) → since_at new zone other
      ≡ cond (node == other && zone_eq place zone) (Some (unwrap_or (since_at zones zone node) beat)) (since_at zones zone other)) → AreHome new homes
  home_want place beat here now zone other at is = by_node (node == other) refl (zone_eq place zone) refl (sym (now zone other) ∙ is)
    where
      by_node : (b : Bool) → (node == other) ≡ b → (c : Bool) → zone_eq place zone ≡ c
          → cond (b && c) (Some (unwrap_or (since_at zones zone node) beat)) (since_at zones zone other) ≡ Some at → get nat_cmp homes other ≡ Some zone
      by_node false same c there is = home zone other at is
      by_node true same false there is = home zone other at is
      by_node true same true there is = subst (λ n. get nat_cmp homes n ≡ Some zone) (eqb-true node other same) (here ∙ ap (λ z. Some z) (same_zone place zone there))

number_same : (a b : ℕ) → nat_cmp a b ≡ Equal → a ≡ b
number_same a b is = grind (arith, nat_tests)

not_at : (a b : ℕ) → (a == b) ≡ false → is_at (nat_cmp a) b ≡ false
not_at a b apart = by_order (nat_cmp a b) refl
  where
    by_order : (o : Ordering) → nat_cmp a b ≡ o → is_eq o ≡ false
    by_order Less is = refl
    by_order Equal is = absurd (false_is (sym apart ∙ eq-eqb a b (number_same a b is)))
    by_order Greater is = refl

pub same_homes : (m n : BTreeMap ℕ Place) → n.entries ≡ m.entries → (q : ℕ) → get nat_cmp n q ≡ get nat_cmp m q
same_homes m n is q = ap (λ es. lookup (is_at (nat_cmp q)) es) is

-- a node that waits nowhere has a new home
pub home_new : (zones : BTreeMap Place Queue) (homes after : BTreeMap ℕ Place) (node : ℕ) (place : Place) → AreHome zones homes
    → ((zone : Place) → since_at zones zone node ≡ None) → ((other : ℕ) → is_at (nat_cmp node) other ≡ false → get nat_cmp after other ≡ get nat_cmp homes other) → AreHome zones after
home_new zones homes after node place home nowhere now zone other at is = by_node (node == other) refl
  where
    by_node : (b : Bool) → (node == other) ≡ b → get nat_cmp after other ≡ Some zone
    by_node false apart = now other (not_at node other apart) ∙ home zone other at is
    by_node true same = absurd (none_is at (sym (nowhere zone) ∙ ap (since_at zones zone) (eqb-true node other same) ∙ is))

pub same_home : (place : Place) (o : Option Place) → is_place place o ≡ true → o ≡ Some place
same_home place None is = absurd (false_is is)
same_home place (Some other) is = ap (λ z. Some z) (same_zone other place is)

-- ---- a node settles

pub settled_in : (zones between new : BTreeMap Place Queue) (node : ℕ) (place : Place) (at : ℕ)
    → ((zone : Place) (other : ℕ) → since_at between zone other ≡ cond (node == other && not (zone_eq place zone)) None (since_at zones zone other))
    → ((zone : Place) (other : ℕ) → since_at new zone other ≡ cond (node == other && zone_eq place zone) (Some (unwrap_or (since_at between zone node) at)) (since_at between zone other))
    → (zone : Place) (other : ℕ) → since_at new zone other ≡ cond (node == other) (moved_in (Some place) zone at (since_at zones zone node)) (since_at zones zone other)
settled_in zones between new node place at left now zone other = now zone other ∙ by_node (node == other) refl (zone_eq place zone) refl
  where
    by_node : (b : Bool) → (node == other) ≡ b → (c : Bool) → zone_eq place zone ≡ c
        → cond (b && c) (Some (unwrap_or (since_at between zone node) at)) (since_at between zone other) ≡ cond b (cond c (Some (unwrap_or (since_at zones zone node) at)) None) (since_at zones zone other)
    by_node false is c there = left zone other ∙ ap (λ b. cond (b && not (zone_eq place zone)) None (since_at zones zone other)) is
    by_node true is false there = left zone other ∙ ap (λ b. cond (b && not (zone_eq place zone)) None (since_at zones zone other)) is ∙ ap (λ c. cond (not c) None (since_at zones zone other)) there
    by_node true is true there =
        ap (λ o. Some (unwrap_or o at))
        (left zone node ∙ ap (λ c. cond ((node == node) && not c) None (since_at zones zone node)) there ∙ and_false (node == node))
      where
        and_false : (b : Bool) → cond (b && false) None (since_at zones zone node) ≡ since_at zones zone node
        and_false true = refl
        and_false false = refl

-- what follows either way
pub either_way : {A B : Type 0} (r : Result A B) (P Q X : Type 0) → OnOk r P → OnErr r Q → (P → X) → (Q → X) → X
either_way (Ok a) P Q X p q f g = f p
either_way (Err b) P Q X p q f g = g q

-- the queue of a node's own zone alone may have it
pub left_others : (zones between : BTreeMap Place Queue) (homes : BTreeMap ℕ Place) (node : ℕ) (place : Place) → AreHome zones homes → is_place place (get nat_cmp homes node) ≡ false
    → ((zone : Place) (other : ℕ) → since_at between zone other ≡ cond (node == other) None (since_at zones zone other))
    → (zone : Place) (other : ℕ) → since_at between zone other ≡ cond (node == other && not (zone_eq place zone)) None (since_at zones zone other)
left_others zones between homes node place home away now zone other = now zone other ∙ by_node (node == other) refl (zone_eq place zone) refl
  where
    by_since : (o : Option ℕ) → since_at zones place node ≡ o → o ≡ None
    by_since None is = refl
    by_since (Some at) is = absurd (false_is (sym away ∙ ap (is_place place) (home place node at is) ∙ zone_itself place))

    by_node : (b : Bool) → (node == other) ≡ b → (c : Bool) → zone_eq place zone ≡ c → cond b None (since_at zones zone other) ≡ cond (b && not c) None (since_at zones zone other)
    by_node false is c there = refl
    by_node true is false there = refl
    by_node true is true there =
        subst (λ n. None ≡ since_at zones zone n) (eqb-true node other is)
        (subst (λ z. None ≡ since_at zones z node) (same_zone place zone there) (sym (by_since (since_at zones place node) refl)))
