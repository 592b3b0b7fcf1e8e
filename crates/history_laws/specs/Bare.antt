-- Requests that ask for no Node.
use Rattle.std.specs.Prelude.{Bool, true}
use Rattle.kube_objects.specs.declared.call.Request.{Request}
use Rattle.kube_objects.specs.declared.call.Request.TheVariants.{PostStatus}
use Rattle.kube_objects.specs.Kinds.{is_lease}
use Rattle.kube_objects.specs.Stored.{key_of}

-- a status finds no Node
abbrev pub is_lease_request : Request → Bool
is_lease_request (PostStatus name status at) = true
is_lease_request request = is_lease (key_of request).kind
