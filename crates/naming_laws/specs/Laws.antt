-- What is printed and what is stored can be written with the document's names.
use Rattle.std.specs.Prelude.{◌≡◌, ℕ, ◌+◌, ◌≤◌, true, List, length, Some, option_map}
use Rattle.std.specs.List.{AllByRecursion}
use Rattle.std.specs.List.Sorted.{IsStrictlySortedBy}
use Rattle.std.specs.Map.{keys_of, lookup}
use Rattle.kube_base.specs.Names.{AreNames}
use Rattle.kube_objects.specs.declared.key.Key.{Key}
use Rattle.kube_objects.specs.declared.object.Object.{Object}
use Rattle.kube_objects.specs.Document.{Doc, processes, end_beat}
use Rattle.kube_objects.specs.Keys.{key_cmp, key_eq}
use Rattle.kube_objects.specs.Stored.{Held, stored}
use Rattle.kube_objects.specs.Writable.{IsWritable}
use Rattle.history.specs.History.{history}
use Rattle.history.specs.Printed.{printed}
use Rattle.manifest_json.specs.declared.scale.Scale.{Scale}
use Rattle.manifest_json.specs.Fields.{Texts}
use Rattle.manifest_json.specs.Readable.{IsReadable}
use Rattle.manifest_json.specs.Written.{is_writable_item}
use Rattle.script_reader.specs.Lawful.{IsLawfulDoc, IsWellNamed}
use Rattle.script_reader.specs.Walk.{numbers_of}
use Rattle.naming_laws.specs.Items.{IsWritableItem}
use Rattle.naming_laws.specs.WellFormed.{IsWellFormedItem, AreWithinLimits}

-- each deed that is printed before a beat, up to the one after the end, has a line in the trace
abbrev pub DeedsAreWritable : Type 0
DeedsAreWritable =
    (names : Texts) (doc : Doc) → AreNames names → IsLawfulDoc doc → IsWellNamed names doc
    → (k : ℕ) → k ≤ end_beat doc + 1 → AllByRecursion (IsWritable names (processes doc)) (printed (history doc k))

-- and each object that is stored then can be written as a manifest
abbrev pub ItemsAreWritable : Type 0
ItemsAreWritable =
    (names : Texts) (doc : Doc) → AreNames names → IsLawfulDoc doc → IsWellNamed names doc
    → (k : ℕ) → k ≤ end_beat doc + 1 → (key : Key) (x : Held) → stored key (history doc k) ≡ Some x
    → IsWritableItem names (length doc.controllers) key x.object

-- and is well-formed: but for the limits it is an object that a manifest gives
abbrev pub ItemsAreWellFormed : Type 0
ItemsAreWellFormed =
    (names : Texts) (doc : Doc) → AreNames names → IsLawfulDoc doc → IsWellNamed names doc
    → (k : ℕ) → k ≤ end_beat doc + 1 → (key : Key) (x : Held) → stored key (history doc k) ≡ Some x
    → IsWellFormedItem names (numbers_of doc.controllers) key x.object

-- so all that is stored then, in the order of keys, is within the limits such as a List gives
abbrev pub StatesAreReadable : Type 0
StatesAreReadable =
    (names : Texts) (doc : Doc) → AreNames names → IsLawfulDoc doc → IsWellNamed names doc → (k : ℕ) → k ≤ end_beat doc + 1
    → (items : List (Key × Object)) → IsStrictlySortedBy key_cmp (keys_of items)
    → ((key : Key) → lookup (key_eq key) items ≡ option_map (λ x. x.object) (stored key (history doc k)))
    → (scale : Scale) → AreWithinLimits scale items → IsReadable scale names (numbers_of doc.controllers) items

-- so none of its times is after 2261, as `write_list` asks
abbrev pub ItemsAreTimely : Type 0
ItemsAreTimely =
    (names : Texts) (controllers : ℕ) (key : Key) (x : Object) → IsWritableItem names controllers key x → is_writable_item (key, x) ≡ true
