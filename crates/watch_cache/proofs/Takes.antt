-- One change after the other is taken over.
use Rattle.std.proofs.Common.{◌≡◌, ℕ, ◌+◌, ◌^◌, ◌<◌, ◌||◌, Bool, true, false, cond, List, [], ◌∷◌, ◌++◌, length, take, Some, None, slice_get, refl, sym, ap, ◌∙◌, arith}
use Rattle.std.proofs.lemmas.List.{take_more}
use Rattle.std.proofs.lemmas.List.Folds.{list_any-append}
use Rattle.std.proofs.lemmas.Option.{get_or_from_slice_get, slice_get-get_or, slice_get_within}
use Rattle.kube_base.specs.Steps.{counted}
use Rattle.kube_objects.specs.declared.key.Key.{Key}
use Rattle.kube_objects.specs.declared.key.Kind.TheVariants as kind
use Rattle.kube_objects.specs.Feeds.{is_among}
use Rattle.kube_objects.specs.Keys.{key_eq}
use Rattle.kube_objects.proofs.KeyOrder.{same_key}

or_false : (b : Bool) → (b || false) ≡ b
or_false true = refl
or_false false = refl

-- one more key is among those that were taken
pub among_more : (keys : List Key) (place : ℕ) (key k : Key) → slice_get keys place ≡ Some key → is_among (take (place + 1) keys) k ≡ (is_among (take place keys) k || key_eq key k)
among_more keys place key k is =
    ap (λ ks. is_among ks k) (take_more keys place key (slice_get_within keys place key is) ∙ ap (λ x. take place keys ++ x ∷ []) (get_or_from_slice_get keys place key key is))
    ∙ list_any-append (λ x. key_eq x k) (take place keys) (key ∷ [])
    ∙ ap (λ b. is_among (take place keys) k || b) (or_false (key_eq key k))

pub taken_more : {A : Type 0} (shown : Key → A) (keys : List Key) (place : ℕ) (key k : Key) (old now next : A) → slice_get keys place ≡ Some key
    → now ≡ cond (is_among (take place keys) k) (shown k) old → next ≡ cond (key_eq key k) (shown key) now → next ≡ cond (is_among (take (place + 1) keys) k) (shown k) old
taken_more shown keys place key k old now next is so_far one =
    one
    ∙ ap (λ x. cond (key_eq key k) (shown key) x) so_far
    ∙ by_tests (key_eq key k) (is_among (take place keys) k) (same_key key k)
    ∙ ap (λ b. cond b (shown k) old) (sym (among_more keys place key k is))
  where
    by_tests : (b a : Bool) → (b ≡ true → key ≡ k) → cond b (shown key) (cond a (shown k) old) ≡ cond (a || b) (shown k) old
    by_tests true true same = ap shown (same refl)
    by_tests true false same = ap shown (same refl)
    by_tests false true same = refl
    by_tests false false same = refl

-- steps that are counted one by one
pub counted_more : (count n : ℕ) → counted (counted count n) 1 ≡ counted count (n + 1)
counted_more count n = grind arith

pub counted_none : (count : ℕ) → count < 2 ^ 64 → count ≡ counted count 0
counted_none count fits = grind arith

-- there is a key at each place
pub key_there : (keys : List Key) (place : ℕ) → place < length keys → slice_get keys place ≡ None → ⊥
key_there keys place below none = never _ (sym none ∙ slice_get-get_or keys place first below)
  where
    first : Key
    first = record { kind = kind.Node; space = 0; name = 0 }

    never : (key : Key) → None ≡ Some key → ⊥
    never key is = cc
