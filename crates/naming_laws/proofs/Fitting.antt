-- Objects with keys that differ, no kind with too many of them, fit in one list.
use Rattle.std.proofs.Common.{◌≡◌, ℕ, ◌<◌, ◌≤◌, ◌==◌, ◌||◌, ◌&&◌, not, nat_lt, true, false, cond, List, [], ◌∷◌, ◌++◌, map, refl, sym, ap, subst, ◌∙◌, arith, append_assoc}
use Rattle.std.specs.List.{AllByRecursion, IsDistinct}
use Rattle.std.proofs.lemmas.Bool.{lt-ltb, eq-eqb}
use Rattle.std.proofs.lemmas.List.Folds.{list_any-append}
use Rattle.std.proofs.lemmas.List.Sums.{sum_by-append}
use Rattle.kube_objects.specs.Keys.{key_eq, kind_rank}
use Rattle.kube_objects.specs.declared.key.Key.{Key}
use Rattle.kube_objects.specs.declared.key.Kind.{Kind}
use Rattle.kube_objects.specs.declared.object.Object.{Object}
use Rattle.history_laws.proofs.Plainly.{and_both}
use Rattle.manifest_json.specs.declared.scale.Scale.{Scale}
use Rattle.manifest_json.specs.Fields.{Texts}
use Rattle.manifest_json.specs.Readable.{AreKeyedApart, IsReadable, IsReadableItem, items_fit}
use Rattle.manifest_json.specs.Walk.{has_key, kind_count, kind_limit}
use Rattle.naming_laws.specs.WellFormed.{IsWellFormedItem, IsWithinLimits, AreWithinLimits}
use Rattle.naming_laws.proofs.Readings.{readable_item}

abbrev keys_of : List (Key × Object) → List Key
keys_of items = map (λ item. item.0) items

-- no key of these items is one of the earlier ones
abbrev AreNew : List (Key × Object) → List (Key × Object) → Type 0
AreNew earlier items = AllByRecursion (λ k. has_key k earlier ≡ false) (keys_of items)

new_push : (earlier items : List (Key × Object)) (x : Key × Object) → AreNew earlier items → AllByRecursion (λ k. key_eq x.0 k ≡ false) (keys_of items) → AreNew (earlier ++ x ∷ []) items
new_push earlier [] x new other = tt
new_push earlier (y ∷ items) x new other =
    (list_any-append (λ i. key_eq i.0 y.0) earlier (x ∷ []) ∙ ap (λ b. b || (key_eq x.0 y.0 || false)) new.0 ∙ ap (λ b. b || false) other.0, new_push earlier items x new.1 other.1)

-- behind so many of a kind there is room for one that is there
room : (scale : Scale) (earlier items : List (Key × Object)) (x : Key × Object) → kind_count x.0.kind (earlier ++ x ∷ items) ≤ kind_limit scale x.0.kind → kind_count x.0.kind earlier < kind_limit scale x.0.kind
room scale earlier items x few =
    let rank = kind_rank x.0.kind in
    let split = sum_by-append (λ y. cond (rank == kind_rank y.0.kind) 1 0) earlier (x ∷ items) in
    let next = sum_by-append (λ y. cond (rank == kind_rank y.0.kind) 1 0) (x ∷ []) items in
    let one : ◌≡◌ {A = ℕ} (cond (rank == rank) 1 0) 1 = ap (λ b. cond {A = ℕ} b 1 0) (eq-eqb rank rank refl) in
    omega (arith, few, split, next, one)

fits : (scale : Scale) (earlier items : List (Key × Object)) → IsDistinct key_eq (keys_of items) → AreNew earlier items → ((kind : Kind) → kind_count kind (earlier ++ items) ≤ kind_limit scale kind) → items_fit scale earlier items ≡ true
unfolding IsDistinct
fits scale earlier [] apart new few = refl
fits scale earlier (x ∷ items) apart new few =
    and_both (not (has_key x.0 earlier) && nat_lt (kind_count x.0.kind earlier) (kind_limit scale x.0.kind)) (items_fit scale (earlier ++ x ∷ []) items)
    (and_both (not (has_key x.0 earlier)) (nat_lt (kind_count x.0.kind earlier) (kind_limit scale x.0.kind)) (ap not new.0)
    (lt-ltb (kind_count x.0.kind earlier) (kind_limit scale x.0.kind) (room scale earlier items x (few x.0.kind))))
    (fits scale (earlier ++ x ∷ []) items apart.1 (new_push earlier items x new.1 apart.0)
    (λ kind. subst (λ xs. kind_count kind xs ≤ kind_limit scale kind) (sym (append_assoc earlier (x ∷ []) items)) (few kind)))

none_before : (items : List (Key × Object)) → AreNew [] items
none_before [] = tt
none_before (x ∷ items) = (refl, none_before items)

each_readable : (names : Texts) (known : List ℕ) (items : List (Key × Object)) → AllByRecursion (λ i. IsWellFormedItem names known i.0 i.1) items → AllByRecursion (λ i. IsWithinLimits i.1) items
    → AllByRecursion (IsReadableItem names known) items
each_readable names known [] all few = tt
each_readable names known (x ∷ items) all few = (readable_item names known x.0 x.1 all.0 few.0, each_readable names known items all.1 few.1)

-- well-formed objects of which no two have the same key are, within the limits, such as a List gives
pub items_readable : (scale : Scale) (names : Texts) (known : List ℕ) (items : List (Key × Object)) → AllByRecursion (λ i. IsWellFormedItem names known i.0 i.1) items
    → AreKeyedApart items → AreWithinLimits scale items → IsReadable scale names known items
items_readable scale names known items all apart few = record {
  each = each_readable names known items all few.each;
  fit = fits scale [] items apart (none_before items) few.kinds;
}
