-- What every store keeps.
use Rattle.std.specs.Prelude.{◌≡◌, true, List, Some}
use Rattle.key_map.specs.Values.{value_at}
use Rattle.key_map.specs.declared.map.KeyMap.{KeyMap}
use Rattle.kube_base.specs.declared.numbers.Version.{Version}
use Rattle.kube_objects.specs.declared.key.Key.{Key}
use Rattle.kube_objects.specs.declared.object.Object.{Object}
use Rattle.kube_objects.specs.Feeds.{is_among}
use Rattle.kube_objects.specs.Kinds.{IsOfKind}
use Rattle.kube_objects.specs.Newest.{has}

abbrev pub Objects : Type 0
Objects = KeyMap (Version × Object)

-- each object is of its key's kind
abbrev pub AreOfKinds : Objects → Type 0
AreOfKinds objects =
    (key : Key) (version : Version) (object : Object) → value_at objects key ≡ Some (version, object) → IsOfKind key object

-- each stored key stands among the changes
abbrev pub AreAmong : List Key → Objects → Type 0
AreAmong changes objects = (key : Key) → has (value_at objects key) ≡ true → is_among changes key ≡ true
