-- Objects that fit in one list have keys that differ, and no kind has too many of them.
use Rattle.std.proofs.Common.{◌≡◌, ℕ, ◌+◌, ◌<◌, ◌≤◌, ◌==◌, ◌||◌, not, nat_lt, Bool, true, false, cond, List, [], ◌∷◌, ◌++◌, map, refl, sym, subst, ◌∙◌, arith, append_assoc, ltb-true}
use Rattle.std.specs.List.{AllByRecursion, IsDistinct}
use Rattle.std.proofs.lemmas.Bool.{lt-ltb}
use Rattle.std.proofs.lemmas.List.{append-nil}
use Rattle.std.proofs.lemmas.List.Folds.{list_any-append}
use Rattle.std.proofs.lemmas.List.Sums.{sum_by-append}
use Rattle.std.proofs.lemmas.Map.Keys.{IsDistinct-cons}
use Rattle.kube_objects.specs.Keys.{key_eq, kind_rank}
use Rattle.kube_objects.specs.declared.key.Key.{Key}
use Rattle.kube_objects.specs.declared.key.Kind.{Kind}
use Rattle.kube_objects.specs.declared.key.Kind.TheVariants as kinds
use Rattle.kube_objects.specs.declared.object.Object.{Object}
use Rattle.manifest_json.specs.declared.scale.Scale.{Scale}
use Rattle.manifest_json.specs.declared.scale.Scale.TheVariants as scales
use Rattle.manifest_json.specs.Fields.{Texts}
use Rattle.manifest_json.specs.Readable.{IsReadable, items_fit}
use Rattle.manifest_json.specs.Walk.{has_key, kind_count, kind_limit}
use Rattle.manifest_laws.proofs.ReadItems.{three, three_true}

abbrev pub keys_of : List (Key × Object) → List Key
keys_of items = map (λ item. item.0) items

neither : (a b : Bool) → (a || b) ≡ false → (a ≡ false) × (b ≡ false)
neither false b e = (refl, e)
neither true b e = absurd (let none : ⊥ = cc in none)

not_true : (b : Bool) → not b ≡ true → b ≡ false
not_true true h = absurd cc
not_true false h = refl

-- ---- keys

-- no key of these items is one of the earlier ones
abbrev AreNew : List (Key × Object) → List (Key × Object) → Type 0
AreNew earlier items = AllByRecursion (λ k. has_key k earlier ≡ false) (keys_of items)

new-parts : (earlier items : List (Key × Object)) (x : Key × Object) → AreNew (earlier ++ x ∷ []) items → AreNew earlier items × AllByRecursion (λ k. key_eq x.0 k ≡ false) (keys_of items)
new-parts earlier [] x all = (tt, tt)
new-parts earlier (y ∷ items) x all =
    let both = neither (has_key y.0 earlier) (key_eq x.0 y.0 || false) (sym (list_any-append (λ i. key_eq i.0 y.0) earlier (x ∷ [])) ∙ all.0) in
    let one = neither (key_eq x.0 y.0) false both.1 in
    let rest = new-parts earlier items x all.1 in
    ((both.0, rest.0), (one.0, rest.1))

apart : (scale : Scale) (earlier items : List (Key × Object)) → items_fit scale earlier items ≡ true → IsDistinct key_eq (keys_of items) × AreNew earlier items
unfolding IsDistinct
apart scale earlier [] fit = (tt, tt)
apart scale earlier (x ∷ items) fit =
    let parts = three (not (has_key x.0 earlier)) (nat_lt (kind_count x.0.kind earlier) (kind_limit scale x.0.kind)) (items_fit scale (earlier ++ x ∷ []) items) fit in
    let rest = apart scale (earlier ++ x ∷ []) items parts.2 in
    let new = new-parts earlier items x rest.1 in
    (IsDistinct-cons key_eq x.0 (keys_of items) new.1 rest.0, (not_true (has_key x.0 earlier) parts.0, new.0))

pub keys-apart : (scale : Scale) (items : List (Key × Object)) → items_fit scale [] items ≡ true → IsDistinct key_eq (keys_of items)
keys-apart scale items fit = (apart scale [] items fit).0

-- ---- counts

-- one more item raises the count of its kind alone
count-push : (kind : Kind) (items : List (Key × Object)) (x : Key × Object) → kind_count kind (items ++ x ∷ []) ≡ kind_count kind items + cond (kind_rank kind == kind_rank x.0.kind) 1 0
count-push kind items x = sum_by-append (λ y. cond (kind_rank kind == kind_rank y.0.kind) 1 0) items (x ∷ []) ∙ omega arith

few-push : (scale : Scale) (kind other : Kind) (items : List (Key × Object)) → kind_count kind items ≤ kind_limit scale kind → kind_count other items < kind_limit scale other
    → kind_count kind items + cond (kind_rank kind == kind_rank other) 1 0 ≤ kind_limit scale kind
few-push scale kinds.Node kinds.Node items few room = omega (arith, room)
few-push scale kinds.Node kinds.Lease items few room = omega (arith, few)
few-push scale kinds.Node kinds.Pod items few room = omega (arith, few)
few-push scale kinds.Lease kinds.Node items few room = omega (arith, few)
few-push scale kinds.Lease kinds.Lease items few room = omega (arith, room)
few-push scale kinds.Lease kinds.Pod items few room = omega (arith, few)
few-push scale kinds.Pod kinds.Node items few room = omega (arith, few)
few-push scale kinds.Pod kinds.Lease items few room = omega (arith, few)
few-push scale kinds.Pod kinds.Pod items few room = omega (arith, room)

few-after : (scale : Scale) (kind : Kind) (earlier items : List (Key × Object)) → items_fit scale earlier items ≡ true → kind_count kind earlier ≤ kind_limit scale kind → kind_count kind (earlier ++ items) ≤ kind_limit scale kind
few-after scale kind earlier [] fit few = subst (λ xs. kind_count kind xs ≤ kind_limit scale kind) (sym (append-nil earlier)) few
few-after scale kind earlier (x ∷ items) fit few =
    let parts = three (not (has_key x.0 earlier)) (nat_lt (kind_count x.0.kind earlier) (kind_limit scale x.0.kind)) (items_fit scale (earlier ++ x ∷ []) items) fit in
    let room = ltb-true (kind_count x.0.kind earlier) (kind_limit scale x.0.kind) parts.1 in
    let one : kind_count kind (earlier ++ x ∷ []) ≤ kind_limit scale kind = omega (arith, count-push kind earlier x, few-push scale kind x.0.kind earlier few room) in
    subst (λ xs. kind_count kind xs ≤ kind_limit scale kind) (append_assoc earlier (x ∷ []) items) (few-after scale kind (earlier ++ x ∷ []) items parts.2 one)

pub kinds-few : (scale : Scale) (kind : Kind) (items : List (Key × Object)) → items_fit scale [] items ≡ true → kind_count kind items ≤ kind_limit scale kind
kinds-few scale kind items fit = few-after scale kind [] items fit least
  where
    least : 0 ≤ kind_limit scale kind
    least = omega arith

-- ---- scales

pub limits-grow : (scale : Scale) (kind : Kind) → kind_limit scale kind ≤ kind_limit scales.Large kind
limits-grow scales.Usual kinds.Node = omega arith
limits-grow scales.Usual kinds.Lease = omega arith
limits-grow scales.Usual kinds.Pod = omega arith
limits-grow scales.Large kind = omega arith

-- what fits at a scale fits at the large one
fits-large : (scale : Scale) (earlier items : List (Key × Object)) → items_fit scale earlier items ≡ true → items_fit scales.Large earlier items ≡ true
fits-large scale earlier [] fit = refl
fits-large scale earlier (x ∷ items) fit =
    let parts = three (not (has_key x.0 earlier)) (nat_lt (kind_count x.0.kind earlier) (kind_limit scale x.0.kind)) (items_fit scale (earlier ++ x ∷ []) items) fit in
    let room = ltb-true (kind_count x.0.kind earlier) (kind_limit scale x.0.kind) parts.1 in
    three_true (not (has_key x.0 earlier)) (nat_lt (kind_count x.0.kind earlier) (kind_limit scales.Large x.0.kind)) (items_fit scales.Large (earlier ++ x ∷ []) items) parts.0
    (lt-ltb (kind_count x.0.kind earlier) (kind_limit scales.Large x.0.kind) (omega (arith, room, limits-grow scale x.0.kind)))
    (fits-large scale (earlier ++ x ∷ []) items parts.2)

pub readable-large : (scale : Scale) (names : Texts) (known : List ℕ) (items : List (Key × Object)) → IsReadable scale names known items → IsReadable scales.Large names known items
readable-large scale names known items h = record { each = h.each; fit = fits-large scale [] items h.fit }
