-- What holds of all objects that are read.
use Rattle.std.specs.Prelude.{◌≡◌, ℕ, ◌≤◌, true, List, [], Ok}
use Rattle.std.specs.List.{list_all}
use Rattle.serde_json.specs.Data.{Data}
use Rattle.kube_objects.specs.declared.key.Key.{Key}
use Rattle.kube_objects.specs.declared.key.Kind.{Kind}
use Rattle.kube_objects.specs.declared.object.Object.{Object}
use Rattle.manifest_json.specs.declared.scale.Scale.{Scale}
use Rattle.manifest_json.specs.Fields.{Texts}
use Rattle.manifest_json.specs.Readable.{AreHeld, AreKeyedApart, items_fit, IsReadable, IsReadableItem}
use Rattle.manifest_json.specs.Walk.{list_walk, object_walk, kind_count, kind_limit}
use Rattle.manifest_json.specs.Written.{is_writable_item}

-- the objects of a List are readable with the names that are held then
abbrev pub ListsAreReadable : Type 0
ListsAreReadable =
    (scale : Scale) (names new : Texts) (known path : List ℕ) (value : Data) (items : List (Key × Object)) (skipped : ℕ)
    → AreHeld names known → list_walk scale names known path value ≡ Ok ((items, skipped), new)
    → IsReadable scale new known items

-- so is an object that is read alone
abbrev pub ObjectsAreReadable : Type 0
ObjectsAreReadable =
    (names new : Texts) (known path : List ℕ) (value : Data) (found : Key × Object)
    → AreHeld names known → object_walk names known path value ≡ Ok (found, new) → IsReadableItem new known found

-- no time of a readable object is after 2261
abbrev pub ReadableIsWritable : Type 0
ReadableIsWritable =
    (scale : Scale) (names : Texts) (known : List ℕ) (items : List (Key × Object))
    → IsReadable scale names known items → list_all is_writable_item items ≡ true

-- no two objects that fit in one list have the same key, and no kind has more of them than its limit at that scale
abbrev pub FittingAreApart : Type 0
FittingAreApart =
    (scale : Scale) (items : List (Key × Object)) → items_fit scale [] items ≡ true
    → AreKeyedApart items × ((kind : Kind) → kind_count kind items ≤ kind_limit scale kind)
