-- What a kubelet asks for, and how often. Source: KEP-589, node heartbeats.
use Rattle.std.specs.Prelude.{ℕ, ◌/◌, Bool, true}
use Rattle.kube_objects.specs.declared.call.Request.{Request}
use Rattle.kube_objects.specs.declared.call.Request.TheVariants.{Get, Create, Update, PostStatus}
use Rattle.kube_objects.specs.Document.{of_seconds}
use Rattle.kube_objects.specs.Kinds.{is_lease}
use Rattle.kubelet_node.specs.declared.waiting.Awaited.{Awaited}
use Rattle.kubelet_node.specs.declared.waiting.Awaited.TheVariants as awaited

-- a Get asks for a Lease
abbrev pub gets_lease : Request → Bool
gets_lease (Get key) = is_lease key.kind
gets_lease _ = true

-- what is awaited after a request
abbrev pub awaited_in : Request → Awaited
awaited_in (Get key) = awaited.Get key
awaited_in (Create key lease) = awaited.Write
awaited_in (Update key version lease) = awaited.Write
awaited_in (PostStatus name status at) = awaited.Post

-- the same as gets_lease, of what is awaited
abbrev pub finds_lease : Awaited → Bool
finds_lease (awaited.Get key) = is_lease key.kind
finds_lease _ = true

-- from the beginning of a round to that of the next: a quarter of the duration of the node's Lease, which is in seconds
abbrev pub period_of : ℕ → ℕ
period_of seconds = of_seconds seconds / 4
