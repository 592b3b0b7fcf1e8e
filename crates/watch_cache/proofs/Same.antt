-- Listings and taints that the derived tests tell equal are one.
use Rattle.std.proofs.Common.{◌≡◌, ◌&&◌, ◌==◌, Bool, true, Option, Some, None, List, [], ◌∷◌, refl, ap, ◌∙◌}
use Rattle.std.proofs.lemmas.Bool.{and_parts, eq-eqb, eqb-true}
use Rattle.std.specs.Cmp.Lexicographic.{pointwise}
use Rattle.std.specs.Option.{option_eq}
use Rattle.kube_base.specs.declared.numbers.Wall.{Wall}
use Rattle.kube_objects.specs.declared.key.Key.{Key}
use Rattle.kube_objects.specs.declared.key.Kind.{Kind}
use Rattle.kube_objects.specs.declared.key.Kind.TheVariants as kind
use Rattle.kube_objects.specs.contracts.key.KeyPartialEq.TheImpl as keys
use Rattle.kube_objects.specs.contracts.key.KindPartialEq.TheImpl as kinds
use Rattle.kube_objects.specs.declared.node.Effect.{Effect}
use Rattle.kube_objects.specs.declared.node.Effect.TheVariants as effect
use Rattle.kube_objects.specs.declared.node.Taint.{Taint}
use Rattle.kube_objects.specs.contracts.node.EffectPartialEq.TheImpl as effects
use Rattle.kube_objects.specs.contracts.node.TaintPartialEq.TheImpl as taints
use Rattle.kube_objects.specs.Tolerations.{effect_eq}
use Rattle.watch_cache.specs.TaintChanges.{taint_eq, taints_eq}
use Rattle.watch_cache.specs.declared.listing.Listing.{Listing}
use Rattle.watch_cache.specs.declared.listing.Listing.TheVariants.{Nowhere, Node, Pod}
use Rattle.watch_cache.specs.contracts.listing.ListingPartialEq.TheImpl as listings

abbrev time_eq : Wall → Wall → Bool
time_eq a b = a.0 == b.0

same_kind : (a b : Kind) → (kinds.eq-value).it a b ≡ true → a ≡ b
same_kind kind.Node kind.Node is = refl
same_kind kind.Lease kind.Lease is = refl
same_kind kind.Pod kind.Pod is = refl
same_kind a b is = absurd (cc)

key_parts : (a b : Key) → (keys.eq-value).it a b ≡ ((kinds.eq-value).it a.kind b.kind && ((a.space == b.space) && (a.name == b.name)))
key_parts a b = refl

same_key : (a b : Key) → (keys.eq-value).it a b ≡ true → a ≡ b
same_key a b is =
    let kind = and_parts ((kinds.eq-value).it a.kind b.kind) ((a.space == b.space) && (a.name == b.name)) is in
    let rest = and_parts (a.space == b.space) (a.name == b.name) kind.1 in
    λ i. record { kind = same_kind a.kind b.kind kind.0 i; space = eqb-true a.space b.space rest.0 i; name = eqb-true a.name b.name rest.1 i }

pub same_listing : (a b : Listing) → (listings.eq-value).it a b ≡ true → a ≡ b
same_listing Nowhere Nowhere is = refl
same_listing Nowhere (Node m) is = absurd (cc)
same_listing Nowhere (Pod m k) is = absurd (cc)
same_listing (Node m) Nowhere is = absurd (cc)
same_listing (Node m) (Node n) is = ap Node (eqb-true m n is)
same_listing (Node m) (Pod n k) is = absurd (cc)
same_listing (Pod m k) Nowhere is = absurd (cc)
same_listing (Pod m k) (Node n) is = absurd (cc)
same_listing (Pod m k) (Pod n l) is =
    let parts = and_parts (m == n) ((keys.eq-value).it k l) is in
    λ i. Pod (eqb-true m n parts.0 i) (same_key k l parts.1 i)

-- a listing is told equal to itself
own_kind : (a : Kind) → (kinds.eq-value).it a a ≡ true
own_kind kind.Node = refl
own_kind kind.Lease = refl
own_kind kind.Pod = refl

own_key : (a : Key) → (keys.eq-value).it a a ≡ true
own_key a =
    ap (λ b. b && ((a.space == a.space) && (a.name == a.name))) (own_kind a.kind)
    ∙ ap (λ b. b && (a.name == a.name)) (eq-eqb a.space a.space refl)
    ∙ eq-eqb a.name a.name refl

pub own_listing : (a : Listing) → (listings.eq-value).it a a ≡ true
own_listing Nowhere = refl
own_listing (Node m) = eq-eqb m m refl
own_listing (Pod m k) = ap (λ b. b && (keys.eq-value).it k k) (eq-eqb m m refl) ∙ own_key k

-- ---- taints

effect_tests : (a b : Effect) → (effects.eq-value).it a b ≡ effect_eq a b
effect_tests effect.NoSchedule effect.NoSchedule = refl
effect_tests effect.NoSchedule b = refl
effect_tests effect.PreferNoSchedule effect.NoSchedule = refl
effect_tests effect.PreferNoSchedule b = refl
effect_tests effect.NoExecute effect.NoSchedule = refl
effect_tests effect.NoExecute b = refl

taint_tests : (a b : Taint) → (taints.eq-value).it a b ≡ taint_eq a b
taint_tests a b = ap (λ t. (a.key == b.key) && ((a.value == b.value) && (t && option_eq time_eq a.added b.added))) (effect_tests a.effect b.effect)

-- the derived test of lists of taints is that of the definitions
pub taints_tests : (xs ys : List Taint) → pointwise (taints.eq-value).it xs ys ≡ taints_eq xs ys
taints_tests [] [] = refl
taints_tests [] (y ∷ ys) = refl
taints_tests (x ∷ xs) [] = refl
taints_tests (x ∷ xs) (y ∷ ys) = ap (λ b. b && pointwise (taints.eq-value).it xs ys) (taint_tests x y) ∙ ap (λ b. taint_eq x y && b) (taints_tests xs ys)

same_effect : (a b : Effect) → effect_eq a b ≡ true → a ≡ b
same_effect effect.NoSchedule effect.NoSchedule is = refl
same_effect effect.PreferNoSchedule effect.PreferNoSchedule is = refl
same_effect effect.NoExecute effect.NoExecute is = refl
same_effect a b is = absurd (cc)

same_time : (a b : Option Wall) → option_eq time_eq a b ≡ true → a ≡ b
same_time None None is = refl
same_time None (Some b) is = absurd (cc)
same_time (Some a) None is = absurd (cc)
same_time (Some a) (Some b) is = ap (λ n. Some (record { 0 = n })) (eqb-true a.0 b.0 is)

same_taint : (a b : Taint) → taint_eq a b ≡ true → a ≡ b
same_taint a b is =
    let two = effect_eq a.effect b.effect && option_eq time_eq a.added b.added in
    let key = and_parts (a.key == b.key) ((a.value == b.value) && two) is in
    let value = and_parts (a.value == b.value) two key.1 in
    let rest = and_parts (effect_eq a.effect b.effect) (option_eq time_eq a.added b.added) value.1 in
    λ i. record {
      key = eqb-true a.key b.key key.0 i;
      value = eqb-true a.value b.value value.0 i;
      effect = same_effect a.effect b.effect rest.0 i;
      added = same_time a.added b.added rest.1 i;
    }

pub same_taints : (xs ys : List Taint) → taints_eq xs ys ≡ true → xs ≡ ys
same_taints [] [] is = refl
same_taints [] (y ∷ ys) is = absurd (cc)
same_taints (x ∷ xs) [] is = absurd (cc)
same_taints (x ∷ xs) (y ∷ ys) is =
    let parts = and_parts (taint_eq x y) (taints_eq xs ys) is in
    λ i. same_taint x y parts.0 i ∷ same_taints xs ys parts.1 i

-- ---- and taints are told equal to themselves

own_effect : (a : Effect) → effect_eq a a ≡ true
own_effect effect.NoSchedule = refl
own_effect effect.PreferNoSchedule = refl
own_effect effect.NoExecute = refl

own_time : (a : Option Wall) → option_eq time_eq a a ≡ true
own_time None = refl
own_time (Some a) = eq-eqb a.0 a.0 refl

own_taint : (a : Taint) → taint_eq a a ≡ true
own_taint a = ap (λ b. b && ((a.value == a.value) && (effect_eq a.effect a.effect && option_eq time_eq a.added a.added))) (eq-eqb a.key a.key refl)
    ∙ ap (λ b. b && (effect_eq a.effect a.effect && option_eq time_eq a.added a.added)) (eq-eqb a.value a.value refl)
    ∙ ap (λ b. b && option_eq time_eq a.added a.added) (own_effect a.effect)
    ∙ own_time a.added

pub own_taints : (xs : List Taint) → taints_eq xs xs ≡ true
own_taints [] = refl
own_taints (x ∷ xs) = ap (λ b. b && taints_eq xs xs) (own_taint x) ∙ own_taints xs
