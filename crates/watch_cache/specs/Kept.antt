-- Objects with their versions, as a cache keeps them.
use Rattle.std.specs.Prelude.{ℕ, ◌==◌, Bool, true, false, Option, Some, None}
use Rattle.kube_base.specs.declared.numbers.Version.{Version}
use Rattle.kube_objects.specs.declared.object.Object.{Object}
use Rattle.kube_objects.specs.declared.pod.Pod.{Pod}
use Rattle.kube_objects.specs.declared.object.Object.TheVariants as object
use Rattle.kube_objects.specs.Answers.{versioned}
use Rattle.kube_objects.specs.Stored.{Held}

-- what a cache keeps of what is held: neither beat nor writer
abbrev pub kept : Option Held → Option (Version × Object)
kept None = None
kept (Some x) = Some (x.version, x.object)

-- what is kept, where it is of a kind
abbrev pub of_kind : {A : Type 0} → (Object → Option A) → Option (Version × Object) → Option (Version × A)
of_kind f None = None
of_kind f (Some x) = versioned x.0 (f x.1)

abbrev pub is_node : Object → Bool
is_node (object.Node node) = true
is_node _ = false

-- whether this is a pod on the node of that name
abbrev pub is_pod_on : ℕ → Object → Bool
is_pod_on n (object.Pod pod) = pod.node == n
is_pod_on n _ = false

abbrev pub is_node_in : Option (Version × Object) → Bool
is_node_in None = false
is_node_in (Some x) = is_node x.1

abbrev pub is_pod_in : ℕ → Option (Version × Object) → Bool
is_pod_in n None = false
is_pod_in n (Some x) = is_pod_on n x.1

-- whether a pod that was seen is on the node of that name
abbrev pub is_on : ℕ → Option (Version × Pod) → Bool
is_on n None = false
is_on n (Some x) = x.1.node == n
