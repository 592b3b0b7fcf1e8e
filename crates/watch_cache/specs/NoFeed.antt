-- A feed that shows nothing.
use Rattle.std.specs.Prelude.{◌≡◌, Option, Some, None}
use Rattle.std.proofs.Common.{subst}
use Rattle.kube_base.specs.declared.numbers.Version.{Version}
use Rattle.kube_objects.specs.declared.key.Key.{Key}
use Rattle.kube_objects.specs.declared.object.Object.{Object}
use Rattle.kube_objects.specs.Kinds.{IsOfKind}

abbrev OfKind : Key → Option (Version × Object) → Object → Type 0
OfKind key None object = Unit {0}
OfKind key (Some x) object = IsOfKind key object

-- so all that it shows is of its key's kind
pub no_kinds : (key : Key) (version : Version) (object : Object) → ◌≡◌ {A = Option (Version × Object)} None (Some (version, object))
    → IsOfKind key object
no_kinds key version object is = subst (λ x. OfKind key x object) is tt
