-- Within a sync.
use Rattle.std.specs.Prelude.{ℕ, ◌&&◌, ◌||◌, Bool, false, List, Option, Some, None}
use Rattle.kube_base.specs.declared.numbers.Version.{Version}
use Rattle.kube_objects.specs.declared.key.Key.{Key}
use Rattle.kube_objects.specs.declared.pod.Pod.{Pod}
use Rattle.kube_objects.specs.Entry.{Entry, Identity}
use Rattle.kube_objects.specs.Feeds.{is_among}
use Rattle.kube_objects.specs.Seen.{is_pod, seen_pod}
use Rattle.kube_objects.specs.Stored.{node_key}

-- whether one of these keys is that of a pod's node, and the node's name passes a test
abbrev pub is_on_open : List Key → (ℕ → Bool) → Option (Version × Pod) → Bool
is_on_open keys names None = false
is_on_open keys names (Some x) = is_among keys (node_key x.1.node) && names x.1.node

-- whether one of these is the key of a pod that this is, or of its node, of those that pass a test
abbrev pub is_open : Identity → List Entry → List Key → (ℕ → Bool) → Key → Bool
is_open q h keys names pod = (is_pod pod.kind && is_among keys pod) || is_on_open keys names (seen_pod q pod h)
