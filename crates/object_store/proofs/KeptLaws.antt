-- What a store keeps is kept by its writes.
use Rattle.std.proofs.Common.{◌≡◌, Bool, true, false, cond, ◌||◌, List, [], ◌∷◌, ◌++◌, Option, Some, None, refl, sym, ap, ◌∙◌, subst}
use Rattle.std.proofs.lemmas.List.Folds.{list_any-append}
use Rattle.key_map.specs.Values.{value_at}
use Rattle.kube_base.specs.declared.numbers.Version.{Version}
use Rattle.kube_objects.specs.declared.key.Key.{Key}
use Rattle.kube_objects.specs.declared.object.Object.{Object}
use Rattle.kube_objects.specs.Feeds.{is_among}
use Rattle.kube_objects.specs.Keys.{key_eq}
use Rattle.kube_objects.specs.Kinds.{IsOfKind}
use Rattle.kube_objects.specs.Newest.{has}
use Rattle.kube_objects.proofs.KeyOrder.{same_key}
use Rattle.object_store.specs.Kept.{Objects, AreAmong, AreOfKinds}

-- what a write leaves under a key is of the key's kind
abbrev pub FitsKey : Key → Option (Version × Object) → Type 0
FitsKey key None = Unit {0}
FitsKey key (Some x) = IsOfKind key x.1

-- the map's own clause at a write
abbrev pub IsAfter : Objects → Objects → Key → Option (Version × Object) → Type 0
IsAfter old new key content = (q : Key) → value_at new q ≡ cond (key_eq key q) content (value_at old q)

pub kinds-after : (old new : Objects) (key : Key) (w : Option (Version × Object))
    → FitsKey key w → IsAfter old new key w → AreOfKinds old → AreOfKinds new
kinds-after old new key w fits u kinds q version object is = by_test (key_eq key q) refl (sym (u q) ∙ is)
  where
    by_test : (b : Bool) → key_eq key q ≡ b → cond b w (value_at old q) ≡ Some (version, object) → IsOfKind q object
    by_test true same is = sym (ap (λ (k : Key). k.kind) (same_key key q same)) ∙ subst (FitsKey key) is fits
    by_test false other is = kinds q version object is

pub among-after : (old new : Objects) (key : Key) (w : Option (Version × Object)) (changes : List Key)
    → IsAfter old new key w → AreAmong changes old → AreAmong (changes ++ key ∷ []) new
among-after old new key w changes u among q is =
    list_any-append (λ k. key_eq k q) changes (key ∷ [])
    ∙ by_test (key_eq key q) refl (sym (ap has (u q)) ∙ is)
  where
    or_true : (b : Bool) → (b || true) ≡ true
    or_true true = refl
    or_true false = refl

    by_test : (b : Bool) → key_eq key q ≡ b → has (cond b w (value_at old q)) ≡ true
        → (is_among changes q || (key_eq key q || false)) ≡ true
    by_test true same is = ap (λ b. is_among changes q || (b || false)) same ∙ or_true (is_among changes q)
    by_test false other is = ap (λ b. b || (key_eq key q || false)) (among q is)

-- one more change
pub among-more : (objects : Objects) (key : Key) (changes : List Key) → AreAmong changes objects → AreAmong (changes ++ key ∷ []) objects
among-more objects key changes among q is = list_any-append (λ k. key_eq k q) changes (key ∷ []) ∙ ap (λ b. b || (key_eq key q || false)) (among q is)
