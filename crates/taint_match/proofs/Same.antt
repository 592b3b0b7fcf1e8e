-- Lists of tolerations that the derived tests tell equal are one.
use Rattle.std.proofs.Common.{◌≡◌, ℤ, ◌&&◌, ◌==◌, true, Option, Some, None, List, [], ◌∷◌, refl, ap}
use Rattle.std.proofs.lemmas.Bool.{and_parts, eqb-true}
use Rattle.std.proofs.lemmas.Bool.Decides.{Decides-int_eq}
use Rattle.std.specs.Cmp.Lexicographic.{pointwise}
use Rattle.std.specs.Option.{option_eq}
use Rattle.std.specs.Ordering.{int_eq}
use Rattle.kube_objects.specs.declared.node.Effect.{Effect}
use Rattle.kube_objects.specs.declared.node.Effect.TheVariants as effect
use Rattle.kube_objects.specs.declared.pod.Operator.{Operator}
use Rattle.kube_objects.specs.declared.pod.Operator.TheVariants as operator
use Rattle.kube_objects.specs.declared.pod.Toleration.{Toleration}
use Rattle.kube_objects.specs.contracts.node.EffectPartialEq.TheImpl as effects
use Rattle.kube_objects.specs.contracts.pod.OperatorPartialEq.TheImpl as operators
use Rattle.kube_objects.specs.contracts.pod.TolerationPartialEq.TheImpl as tolerations

same_operator : (a b : Operator) → (operators.eq-value).it a b ≡ true → a ≡ b
same_operator operator.Exists operator.Exists is = refl
same_operator operator.Equal operator.Equal is = refl
same_operator a b is = absurd (cc)

same_effect : (a b : Effect) → (effects.eq-value).it a b ≡ true → a ≡ b
same_effect effect.NoSchedule effect.NoSchedule is = refl
same_effect effect.PreferNoSchedule effect.PreferNoSchedule is = refl
same_effect effect.NoExecute effect.NoExecute is = refl
same_effect a b is = absurd (cc)

same_wanted : (a b : Option Effect) → option_eq (effects.eq-value).it a b ≡ true → a ≡ b
same_wanted None None is = refl
same_wanted None (Some b) is = absurd (cc)
same_wanted (Some a) None is = absurd (cc)
same_wanted (Some a) (Some b) is = ap Some (same_effect a b is)

same_seconds : (a b : Option ℤ) → option_eq int_eq a b ≡ true → a ≡ b
same_seconds None None is = refl
same_seconds None (Some b) is = absurd (cc)
same_seconds (Some a) None is = absurd (cc)
same_seconds (Some a) (Some b) is = ap Some ((Decides-int_eq a b).0 is)

same_toleration : (a b : Toleration) → (tolerations.eq-value).it a b ≡ true → a ≡ b
same_toleration a b is =
    let last = option_eq int_eq a.seconds b.seconds in
    let two = option_eq (effects.eq-value).it a.effect b.effect && last in
    let three = (a.value == b.value) && two in
    let key = and_parts (a.key == b.key) ((operators.eq-value).it a.operator b.operator && three) is in
    let operator = and_parts ((operators.eq-value).it a.operator b.operator) three key.1 in
    let value = and_parts (a.value == b.value) two operator.1 in
    let rest = and_parts (option_eq (effects.eq-value).it a.effect b.effect) last value.1 in
    λ i. record {
      key = eqb-true a.key b.key key.0 i;
      operator = same_operator a.operator b.operator operator.0 i;
      value = eqb-true a.value b.value value.0 i;
      effect = same_wanted a.effect b.effect rest.0 i;
      seconds = same_seconds a.seconds b.seconds rest.1 i;
    }

pub same_tolerations : (xs ys : List Toleration) → pointwise (tolerations.eq-value).it xs ys ≡ true → xs ≡ ys
same_tolerations [] [] is = refl
same_tolerations [] (y ∷ ys) is = absurd (cc)
same_tolerations (x ∷ xs) [] is = absurd (cc)
same_tolerations (x ∷ xs) (y ∷ ys) is =
    let parts = and_parts ((tolerations.eq-value).it x y) (pointwise (tolerations.eq-value).it xs ys) is in
    λ i. same_toleration x y parts.0 i ∷ same_tolerations xs ys parts.1 i
