-- What is stored after a beat is read back, where no limit is passed.
use Rattle.std.proofs.Common.{◌≡◌, ℕ, suc, ◌+◌, ◌≤◌, Bool, true, false, List, [], ◌∷◌, slice_get, Option, Some, None, option_map, refl, sym, ap, ◌∙◌, subst}
use Rattle.std.proofs.lemmas.Map.Entries.{lookup_from_place}
use Rattle.std.proofs.lemmas.Map.Keys.{IsDistinct-from_sorted}
use Rattle.std.specs.Cmp.{IsEquivalence}
use Rattle.std.specs.List.{AllByRecursion, IsDistinct}
use Rattle.std.specs.Map.{keys_of, lookup}
use Rattle.kube_base.specs.Names.{AreNames}
use Rattle.kube_objects.proofs.KeyOrder.{same_key, key_itself}
use Rattle.kube_objects.specs.declared.key.Key.{Key}
use Rattle.kube_objects.specs.declared.object.Object.{Object}
use Rattle.kube_objects.specs.Document.{Doc, end_beat}
use Rattle.kube_objects.specs.Keys.{key_cmp, key_eq}
use Rattle.kube_objects.specs.Stored.{Held, stored}
use Rattle.history.specs.History.{history}
use Rattle.history_laws.proofs.Plainly.{some_is, none_is}
use Rattle.manifest_json.specs.Fields.{Texts}
use Rattle.script_reader.specs.Lawful.{IsLawfulDoc, IsWellNamed}
use Rattle.script_reader.specs.Walk.{numbers_of}
use Rattle.naming_laws.specs.Laws.{StatesAreReadable}
use Rattle.naming_laws.specs.WellFormed.{IsWellFormedItem}
use Rattle.naming_laws.proofs.Fitting.{items_readable}
use Rattle.naming_laws.proofs.Naming.{items_well_formed}

key-eq-symm : (a b : Key) → key_eq a b ≡ key_eq b a
key-eq-symm a b = by_tests (key_eq a b) (key_eq b a) refl refl
  where
    by_tests : (x y : Bool) → key_eq a b ≡ x → key_eq b a ≡ y → x ≡ y
    by_tests true true one other = refl
    by_tests false false one other = refl
    by_tests true false one other = sym (key_itself a) ∙ ap (λ k. key_eq k a) (same_key a b one) ∙ other
    by_tests false true one other = sym one ∙ ap (λ k. key_eq k b) (sym (same_key b a other)) ∙ key_itself b

pub keys-alike : IsEquivalence key_eq
keys-alike = record { refl = key_itself; symm = key-eq-symm; congr = λ a b d same. ap (λ k. key_eq k d) (same_key a b same) }

pub all-placed : {A : Type 0} (P : A → Type 0) (xs : List A) → ((i : ℕ) (x : A) → slice_get xs i ≡ Some x → P x) → AllByRecursion P xs
all-placed P [] each = tt
all-placed P (x ∷ xs) each = (each 0 x refl, all-placed P xs (λ i y at. each (suc i) y at))

module _ (names : Texts) (doc : Doc) (k : ℕ) (are : AreNames names) (lawful : IsLawfulDoc doc) (named : IsWellNamed names doc) (within : k ≤ end_beat doc + 1) where
  abbrev WellFormed : Key × Object → Type 0
  WellFormed item = IsWellFormedItem names (numbers_of doc.controllers) item.0 item.1

  kept : (key : Key) (x : Object) (o : Option Held) → stored key (history doc k) ≡ o → option_map (λ (x : Held). x.object) o ≡ Some x → WellFormed (key, x)
  kept key x None at is = absurd (none_is x is)
  kept key x (Some y) at is = subst (λ x. WellFormed (key, x)) (some_is y.object x is) (items_well_formed names doc are lawful named k within key y at)

  each_kept : (items : List (Key × Object)) → IsDistinct key_eq (keys_of items)
      → ((key : Key) → lookup (key_eq key) items ≡ option_map (λ (x : Held). x.object) (stored key (history doc k))) → AllByRecursion WellFormed items
  each_kept items apart same = all-placed WellFormed items placed
    where
      placed : (i : ℕ) (item : Key × Object) → slice_get items i ≡ Some item → WellFormed item
      placed i item at =
          let found : lookup (key_eq item.0) items ≡ Some item.1 = lookup_from_place keys-alike items i item.0 item.1 apart at in
          kept item.0 item.1 (stored item.0 (history doc k)) refl (sym (same item.0) ∙ found)

pub states_readable : StatesAreReadable
states_readable names doc are lawful named k within items ascend same scale few =
    let apart = IsDistinct-from_sorted key_cmp (keys_of items) ascend in
    items_readable scale names (numbers_of doc.controllers) items (each_kept names doc k are lawful named within items apart same) apart few
