-- A toleration that is put into a slot.
use Rattle.std.proofs.Common.{◌≡◌, ℕ, zero, suc, ◌<◌, ◌==◌, ◌&&◌, ◌||◌, ◌++◌, Bool, true, false, cond, List, [], ◌∷◌, length, slice_get, slice_set, get_or, Some, refl, subst, sym, ap, ◌∙◌, arith}
use Rattle.std.proofs.lemmas.Bool.{eqb-true}
use Rattle.std.proofs.lemmas.Bool.Decides.{nat_tests}
use Rattle.std.proofs.lemmas.List.Folds.{list_any-append}
use Rattle.std.specs.List.{list_any}
use Rattle.kube_base.proofs.Lists.{get-set}
use Rattle.kube_objects.specs.declared.node.Taint.{Taint}
use Rattle.kube_objects.specs.declared.pod.Toleration.{Toleration}
use Rattle.kube_objects.specs.Tolerations.{effect_fits, value_fits, tolerates}
use Rattle.pod_tools.specs.ByKey.{in_slot, or_empty, slot}

in_slot-get_or : (slots : List (List Toleration)) (i : ℕ) (d : List Toleration) → i < length slots → get_or slots i d ≡ in_slot slots i
in_slot-get_or [] i d below = absurd (omega (arith, below))
in_slot-get_or (x ∷ slots) zero d below = refl
in_slot-get_or (x ∷ slots) (suc i) d below = in_slot-get_or slots i d (omega (arith, below))

pub has_key : (n : ℕ) → ¬ (n ≡ 0) → (n == 0) ≡ false
has_key n other = by_test (n == 0) refl
  where
    by_test : (b : Bool) → (n == 0) ≡ b → b ≡ false
    by_test true is = absurd (other (eqb-true n 0 is))
    by_test false is = refl

-- ---- what was put in is told of

seam : (a b c : Bool) → ((a || (c || false)) || b) ≡ ((a || b) || c)
seam true b c = refl
seam false true true = refl
seam false true false = refl
seam false false true = refl
seam false false false = refl

slot-seam : (a b c : Bool) → (a || (b || (c || false))) ≡ ((a || b) || c)
slot-seam true b c = refl
slot-seam false true c = refl
slot-seam false false true = refl
slot-seam false false false = refl

no-more : (a b c : Bool) → c ≡ false → (a || b) ≡ ((a || b) || c)
no-more true b c isnt = refl
no-more false true c isnt = refl
no-more false false c isnt = sym isnt

module _ (taint : Taint) where
  abbrev pub told : List Toleration → Bool
  told ts = list_any (λ t. tolerates t taint) ts

  -- one that is put among those without a key
  pub put_keyless : (keyless others : List Toleration) (t : Toleration) → (told (keyless ++ t ∷ []) || told others) ≡ ((told keyless || told others) || tolerates t taint)
  put_keyless keyless others t =
      ap (λ b. b || told others) (list_any-append (λ x. tolerates x taint) keyless (t ∷ []))
      ∙ seam (told keyless) (told others) (tolerates t taint)

  barred : (effect zero_key same_key value : Bool) → zero_key ≡ false → same_key ≡ false → ((effect && (zero_key || same_key)) && value) ≡ false
  barred false zero_key same_key value none other = refl
  barred true false false value none other = refl
  barred true true same_key value none other = absurd (cc)
  barred true false true value none other = absurd (cc)

  -- one with another key doesn't tolerate it
  other-key : (t : Toleration) → (t.key == 0) ≡ false → (t.key == taint.key) ≡ false → tolerates t taint ≡ false
  other-key t none other = barred (effect_fits t.effect taint.effect) (t.key == 0) (t.key == taint.key) (value_fits t.operator t.value taint.value) none other

  same-slot : (mix a b : ℕ) → (a == b) ≡ true → (slot mix a == slot mix b) ≡ true
  same-slot mix a b is = ap (λ n. slot mix a == slot mix n) (sym (eqb-true a b is)) ∙ own (slot mix a)
    where
      own : (n : ℕ) → (n == n) ≡ true
      own n = grind (arith, nat_tests)

  other-slot : (mix : ℕ) (t : Toleration) → (t.key == 0) ≡ false → (slot mix t.key == slot mix taint.key) ≡ false → tolerates t taint ≡ false
  other-slot mix t none apart = by_test (t.key == taint.key) refl
    where
      by_test : (b : Bool) → (t.key == taint.key) ≡ b → tolerates t taint ≡ false
      by_test true is = absurd (let both : true ≡ false = sym (same-slot mix t.key taint.key is) ∙ apart in cc)
      by_test false is = other-key t none is

  -- one that is put into its slot
  put_slot : (mix : ℕ) (keyless : List Toleration) (slots : List (List Toleration)) (t : Toleration) (was : List Toleration) → (t.key == 0) ≡ false
      → slot mix t.key < length slots → was ≡ get_or slots (slot mix t.key) was
      → (told keyless || told (in_slot (slice_set slots (slot mix t.key) (was ++ t ∷ [])) (slot mix taint.key)))
      ≡ ((told keyless || told (in_slot slots (slot mix taint.key))) || tolerates t taint)
  put_slot mix keyless slots t was none below is =
      ap (λ o. told keyless || told (or_empty o)) (get-set slots (slot mix t.key) (slot mix taint.key) (was ++ t ∷ []) below)
      ∙ by_test (slot mix t.key == slot mix taint.key) refl
    where
      by_test : (b : Bool) → (slot mix t.key == slot mix taint.key) ≡ b
          → (told keyless || told (or_empty (cond b (Some (was ++ t ∷ [])) (slice_get slots (slot mix taint.key)))))
          ≡ ((told keyless || told (in_slot slots (slot mix taint.key))) || tolerates t taint)
      by_test true here =
          ap (λ b. told keyless || b) (list_any-append (λ x. tolerates x taint) was (t ∷ []))
          ∙ ap (λ ts. told keyless || (told ts || (tolerates t taint || false)))
          (is ∙ in_slot-get_or slots (slot mix t.key) was below ∙ ap (in_slot slots) (eqb-true (slot mix t.key) (slot mix taint.key) here))
          ∙ slot-seam (told keyless) (told (in_slot slots (slot mix taint.key))) (tolerates t taint)
      by_test false apart = no-more (told keyless) (told (in_slot slots (slot mix taint.key))) (tolerates t taint) (other-slot mix t none apart)

  pub put_at : (mix : ℕ) (keyless : List Toleration) (slots : List (List Toleration)) (t : Toleration) (was : List Toleration) (i count : ℕ) → i ≡ slot mix t.key
      → (t.key == 0) ≡ false → count ≡ length slots → i < count → was ≡ get_or slots i was
      → (told keyless || told (in_slot (slice_set slots i (was ++ t ∷ [])) (slot mix taint.key)))
      ≡ ((told keyless || told (in_slot slots (slot mix taint.key))) || tolerates t taint)
  put_at mix keyless slots t was i count same none long below is =
      ap (λ n. told keyless || told (in_slot (slice_set slots n (was ++ t ∷ [])) (slot mix taint.key))) same
      ∙ put_slot mix keyless slots t was none (subst (λ n. n < length slots) same (subst (λ n. i < n) long below))
      (subst (λ n. was ≡ get_or slots n was) same is)

-- empty slots are empty everywhere
pub all_empty : (slots : List (List Toleration)) (p : ℕ) → ((i : ℕ) → in_slot slots i ≡ []) → in_slot (slots ++ [] ∷ []) p ≡ []
all_empty [] zero empty = refl
all_empty [] (suc p) empty = refl
all_empty (x ∷ slots) zero empty = empty 0
all_empty (x ∷ slots) (suc p) empty = all_empty slots p (λ i. empty (suc i))
