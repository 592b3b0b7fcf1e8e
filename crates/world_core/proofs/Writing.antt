-- Layer 5, what can be written: what a beat prints and what is stored then can be written with the document's names.
use Rattle.std.proofs.Common.{◌≡◌, ℕ, suc, ◌+◌, ◌≤◌, true, List, [], ◌∷◌, ◌++◌, length, slice_get, Option, Some, None, Result, Ok, Err, IfOk, refl, sym, ◌∙◌, subst, arith}
use Rattle.std.proofs.lemmas.Map.Entries.{lookup_from_place}
use Rattle.std.proofs.lemmas.Map.Keys.{IsDistinct-from_sorted}
use Rattle.std.specs.List.{AllByRecursion, list_all}
use Rattle.std.specs.List.Sorted.{IsStrictlySortedBy}
use Rattle.std.specs.Map.{keys_of, lookup}
use Rattle.kube_base.specs.Names.{AreNames}
use Rattle.kube_objects.specs.declared.deed.Deed.{Deed}
use Rattle.kube_objects.specs.declared.key.Key.{Key}
use Rattle.kube_objects.specs.declared.object.Object.{Object}
use Rattle.kube_objects.specs.Document.{Doc, processes, end_beat}
use Rattle.kube_objects.specs.Keys.{key_cmp, key_eq}
use Rattle.kube_objects.specs.Stored.{Held, stored}
use Rattle.kube_objects.specs.Writable.{IsWritable}
use Rattle.history.specs.History.{history, beat}
use Rattle.history.specs.Printed.{printed}
use Rattle.beat_laws.proofs.Names.{nodes_are_few}
use Rattle.history_laws.proofs.Once.{calls_are_few}
use Rattle.history_laws.proofs.Starts.{starts_are_few}
use Rattle.history_laws.proofs.Plainly.{some_is, none_is, and_both}
use Rattle.manifest_json.specs.Written.{is_writable_item}
use Rattle.naming_laws.specs.Items.{IsWritableItem}
use Rattle.naming_laws.proofs.Kept.{keys-alike, all-placed}
use Rattle.naming_laws.proofs.Naming.{deeds_writable, items_writable}
use Rattle.naming_laws.proofs.Readings.{item_timely}
use Rattle.object_store.specs.StoreAnswers.{object_of}
use Rattle.script_reader.specs.Lawful.{IsLawfulDoc, IsWellNamed}
use Rattle.world_core.proofs.Fewness.{few-beat, objects-most}
use Rattle.world_core.proofs.Ranges.{end-most}
use Rattle.world_core.specs.Worlds.{AreWritable}
use Rattle.world_process.specs.Plain.{IsFew}

all-after : {A : Type 0} (P : A → Type 0) (xs ys : List A) → AllByRecursion P (xs ++ ys) → AllByRecursion P ys
all-after P [] ys all = all
all-after P (x ∷ xs) ys all = all-after P xs ys all.1

-- what a lawful document's history counts stays within its types
pub lawful-few : (doc : Doc) (k : ℕ) → IsLawfulDoc doc → k ≤ end_beat doc → IsFew (beat doc (history doc k) k)
lawful-few doc k lawful within =
    let least : end_beat doc ≤ 604800000 = end-most (end_beat doc) doc.settings.beat_millis lawful.settings.beat_least lawful.settings.end in
    few-beat doc k calls_are_few starts_are_few nodes_are_few (omega (arith, least, within)) (objects-most doc.objects lawful.few_objects) lawful.few_events

pub beat-writable : (names : List (List ℕ)) (doc : Doc) (k : ℕ) (deeds : List Deed) → AreNames names → IsLawfulDoc doc → IsWellNamed names doc → k ≤ end_beat doc
    → printed (history doc k) ++ deeds ≡ printed (beat doc (history doc k) k) → AllByRecursion (IsWritable names (processes doc)) deeds
beat-writable names doc k deeds are lawful named within told =
    all-after (IsWritable names (processes doc)) (printed (history doc k)) deeds
    (subst (AllByRecursion (IsWritable names (processes doc))) (sym told) (deeds_writable names doc are lawful named (suc k) (omega (arith, within))))

-- ---- objects

timely-items : (names : List (List ℕ)) (controllers : ℕ) (items : List (Key × Object)) → AllByRecursion (λ item. IsWritableItem names controllers item.0 item.1) items → list_all is_writable_item items ≡ true
timely-items names controllers [] all = refl
timely-items names controllers (x ∷ xs) all =
    and_both (is_writable_item (x.0, x.1)) (list_all is_writable_item xs) (item_timely names controllers x.0 x.1 all.0) (timely-items names controllers xs all.1)

module _ (names : List (List ℕ)) (doc : Doc) (k : ℕ) (are : AreNames names) (lawful : IsLawfulDoc doc) (named : IsWellNamed names doc) (within : k ≤ end_beat doc + 1) where
  abbrev Writable : Key × Object → Type 0
  Writable item = IsWritableItem names (length doc.controllers) item.0 item.1

  kept-writable : (key : Key) (x : Object) (o : Option Held) → stored key (history doc k) ≡ o → object_of o ≡ Some x → Writable (key, x)
  kept-writable key x None at is = absurd (none_is x is)
  kept-writable key x (Some y) at is = subst (λ x. Writable (key, x)) (some_is y.object x is) (items_writable names doc are lawful named k within key y at)

  pub objects-writable : (items : List (Key × Object)) → IsStrictlySortedBy key_cmp (keys_of items) → ((key : Key) → lookup (key_eq key) items ≡ object_of (stored key (history doc k)))
      → AreWritable names (length doc.controllers) items
  objects-writable items ascend kept = record { each = all; timely = timely-items names (length doc.controllers) items all }
    where
      placed : (i : ℕ) (item : Key × Object) → slice_get items i ≡ Some item → Writable item
      placed i item at =
          let found : lookup (key_eq item.0) items ≡ Some item.1 = lookup_from_place keys-alike items i item.0 item.1 (IsDistinct-from_sorted key_cmp (keys_of items) ascend) at in
          kept-writable item.0 item.1 (stored item.0 (history doc k)) refl (sym (kept item.0) ∙ found)

      all : AllByRecursion Writable items
      all = all-placed Writable items placed

  pub answer-writable : {E : Type 0} (answer : Result (List (Key × Object)) E) → IfOk answer (λ items. IsStrictlySortedBy key_cmp (keys_of items))
      → ((key : Key) → IfOk answer (λ items. lookup (key_eq key) items ≡ object_of (stored key (history doc k)))) → IfOk answer (AreWritable names (length doc.controllers))
  answer-writable (Ok items) ascend kept = objects-writable items ascend kept
  answer-writable (Err e) ascend kept = tt
