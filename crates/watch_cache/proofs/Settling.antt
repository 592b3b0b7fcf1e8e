-- What holds of one changed node after the other that isn't among some, or that is.
use Rattle.std.proofs.Common.{◌≡◌, ◌∙◌, ℕ, ◌+◌, ◌||◌, Bool, true, false, List, take, Option, Some, slice_get, refl, sym, ap, subst}
use Rattle.kube_base.specs.declared.numbers.Version.{Version}
use Rattle.kube_objects.specs.declared.key.Key.{Key}
use Rattle.kube_objects.specs.declared.object.Object.{Object}
use Rattle.kube_objects.specs.Feeds.{is_among}
use Rattle.kube_objects.specs.Keys.{key_eq}
use Rattle.kube_objects.specs.Stored.{node_key}
use Rattle.kube_objects.proofs.KeyOrder.{same_key}
use Rattle.watch_cache.proofs.Takes.{among_more}

-- of what isn't among them
pub settled_more : (P : ℕ → Option (Version × Object) → Type 0) (shown : Key → Option (Version × Object)) (keys : List Key) (place : ℕ) (key : Key) (old new : ℕ → Bool) → slice_get keys place ≡ Some key
    → ((n : ℕ) → is_among (take place keys) (node_key n) ≡ true → old n ≡ false → P n (shown (node_key n)))
    → ((n : ℕ) → new n ≡ false → old n ≡ false) → ((n : ℕ) → key_eq key (node_key n) ≡ true → new n ≡ false → P n (shown key))
    → (n : ℕ) → is_among (take (place + 1) keys) (node_key n) ≡ true → new n ≡ false → P n (shown (node_key n))
settled_more P shown keys place key old new is before more one n among out =
    by_tests (is_among (take place keys) (node_key n)) (key_eq key (node_key n)) refl refl (sym (among_more keys place key (node_key n) is) ∙ among)
  where
    by_tests : (a b : Bool) → is_among (take place keys) (node_key n) ≡ a → key_eq key (node_key n) ≡ b → (a || b) ≡ true → P n (shown (node_key n))
    by_tests true b there same either = before n there (more n out)
    by_tests false true there same either = subst (λ k. P n (shown k)) (same_key key (node_key n) same) (one n same out)
    by_tests false false there same either = absurd (cc)

-- of what is
pub unsettled_more : (P : ℕ → Option (Version × Object) → Type 0) (shown : Key → Option (Version × Object)) (keys : List Key) (place : ℕ) (key : Key) (old new : ℕ → Bool) → slice_get keys place ≡ Some key
    → ((n : ℕ) → old n ≡ true → (is_among (take place keys) (node_key n) ≡ true) × P n (shown (node_key n)))
    → ((n : ℕ) → new n ≡ true → old n ≡ false → (key_eq key (node_key n) ≡ true) × P n (shown key))
    → (n : ℕ) → new n ≡ true → (is_among (take (place + 1) keys) (node_key n) ≡ true) × P n (shown (node_key n))
unsettled_more P shown keys place key old new is before one n there = by_test (old n) refl
  where
    a : Bool
    a = is_among (take place keys) (node_key n)

    more : (is_among (take (place + 1) keys) (node_key n)) ≡ (a || key_eq key (node_key n))
    more = among_more keys place key (node_key n) is

    or_right : (b : Bool) → (b || true) ≡ true
    or_right true = refl
    or_right false = refl

    by_test : (b : Bool) → old n ≡ b → (is_among (take (place + 1) keys) (node_key n) ≡ true) × P n (shown (node_key n))
    by_test true was =
        let had = before n was in
        (more ∙ ap (λ b. b || key_eq key (node_key n)) had.0, had.1)
    by_test false was =
        let has = one n there was in
        (more ∙ ap (λ b. a || b) has.0 ∙ or_right a, subst (λ k. P n (shown k)) (same_key key (node_key n) has.0) has.1)
