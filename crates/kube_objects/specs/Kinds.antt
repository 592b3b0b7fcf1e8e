-- Which objects stand under which keys.
use Rattle.std.specs.Prelude.{◌≡◌, Bool, true, false}
use Rattle.kube_objects.specs.declared.call.Request.{Request}
use Rattle.kube_objects.specs.declared.call.Request.TheVariants.{Get, Create, Update, PostStatus}
use Rattle.kube_objects.specs.declared.key.Key.{Key}
use Rattle.kube_objects.specs.declared.key.Kind.{Kind}
use Rattle.kube_objects.specs.declared.key.Kind.TheVariants as kind
use Rattle.kube_objects.specs.declared.object.Object.{Object}
use Rattle.kube_objects.specs.declared.object.Object.TheVariants as object

abbrev pub kind_of : Object → Kind
kind_of (object.Node node) = kind.Node
kind_of (object.Lease lease) = kind.Lease
kind_of (object.Pod pod) = kind.Pod

-- an object stands under a key of its kind
abbrev pub IsOfKind : Key → Object → Type 0
IsOfKind key object = key.kind ≡ kind_of object

abbrev pub is_lease : Kind → Bool
is_lease kind.Lease = true
is_lease _ = false

-- whether a request writes a Lease under the key of a Lease alone
abbrev pub keeps_kind : Request → Bool
keeps_kind (Get key) = true
keeps_kind (Create key lease) = is_lease key.kind
keeps_kind (Update key given lease) = is_lease key.kind
keeps_kind (PostStatus name status at) = true
