-- Nodes' names, pods' keys and zones are in strict orders.
use Rattle.std.proofs.Common.{◌≡◌, ◌∙◌, ℕ, true, refl, ap, Less, Equal, Greater, arith}
use Rattle.std.proofs.lemmas.Bool.Decides.{nat_tests}
use Rattle.std.proofs.lemmas.Cmp.{nat_cmp_total, on_total, then_total}
use Rattle.std.specs.Ordering.{nat_cmp, is_eq, ordering_then}
use Rattle.std.specs.declared.cmp.Ordering.{Ordering}
use Rattle.kube_objects.specs.declared.key.Key.{Key}
use Rattle.kube_objects.specs.Entry.{Place}
use Rattle.kube_objects.specs.Keys.{kind_rank, key_cmp}
use Rattle.kube_objects.specs.Modes.{place_cmp, place_eq}
use Rattle.kube_objects.proofs.KeyOrder.{same_key}
use Rattle.tick_laws.specs.Walks.{IsStrict}

number_same : (a b : ℕ) → nat_cmp a b ≡ Equal → a ≡ b
number_same a b is = grind (arith, nat_tests)

pub names_strict : IsStrict nat_cmp
names_strict = record { total = nat_cmp_total; same = number_same }

pub keys_strict : IsStrict key_cmp
keys_strict =
    record {
      total = then_total (on_total (λ (k : Key). kind_rank k.kind) nat_cmp_total) (then_total (on_total (λ (k : Key). k.space) nat_cmp_total) (on_total (λ (k : Key). k.name) nat_cmp_total));
      same = λ a b is. same_key a b (ap is_eq is);
    }

then_equal : (o p : Ordering) → ordering_then o p ≡ Equal → (o ≡ Equal) × (p ≡ Equal)
then_equal Less p is = absurd (cc)
then_equal Equal p is = (refl, is)
then_equal Greater p is = absurd (cc)

place_same : (a b : Place) → place_cmp a b ≡ Equal → a ≡ b
place_same a b is = joined (number_same a.region b.region parts.0) (number_same a.zone b.zone parts.1)
  where
    parts : (nat_cmp a.region b.region ≡ Equal) × (nat_cmp a.zone b.zone ≡ Equal)
    parts = then_equal (nat_cmp a.region b.region) (nat_cmp a.zone b.zone) is

    joined : a.region ≡ b.region → a.zone ≡ b.zone → a ≡ b
    joined region zone = λ i. record { region = region i; zone = zone i }

pub places_strict : IsStrict place_cmp
places_strict = record { total = then_total (on_total (λ (p : Place). p.region) nat_cmp_total) (on_total (λ (p : Place). p.zone) nat_cmp_total); same = place_same }

equal_is : (o : Ordering) → is_eq o ≡ true → o ≡ Equal
equal_is Less is = absurd (cc)
equal_is Equal is = refl
equal_is Greater is = absurd (cc)

pub same_place : (a b : Place) → place_eq a b ≡ true → a ≡ b
same_place a b is = place_same a b (equal_is (place_cmp a b) is)

number_itself : (a : ℕ) → nat_cmp a a ≡ Equal
number_itself a = grind (arith, nat_tests)

pub place_itself : (a : Place) → place_eq a a ≡ true
place_itself a = ap (λ o. is_eq (ordering_then o (nat_cmp a.zone a.zone))) (number_itself a.region) ∙ ap is_eq (number_itself a.zone)
