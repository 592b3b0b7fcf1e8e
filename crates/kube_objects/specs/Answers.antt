-- How the store answers a request after a history. Source: Kubernetes API concepts; the rule on a status that
-- is posted again is the profile's.
use Rattle.std.specs.Prelude.{ℕ, ◌+◌, ◌==◌, nat_lt, Bool, true, false, cond, List, Option, Some, None}
use Rattle.kube_base.specs.declared.fixed.TheConstants.{KUBELET_READY, KUBELET_NOT_READY}
use Rattle.kube_base.specs.declared.numbers.Version.{Version}
use Rattle.kube_base.specs.declared.numbers.Wall.{Wall}
use Rattle.kube_objects.specs.declared.call.Reply.{Reply}
use Rattle.kube_objects.specs.declared.call.Reply.TheVariants as reply
use Rattle.kube_objects.specs.declared.call.Request.{Request}
use Rattle.kube_objects.specs.declared.call.Request.TheVariants.{Get, Create, Update, PostStatus}
use Rattle.kube_objects.specs.declared.lease.Lease.{Lease}
use Rattle.kube_objects.specs.declared.node.Node.{Node}
use Rattle.kube_objects.specs.declared.node.Ready.{Ready}
use Rattle.kube_objects.specs.declared.node.ReadyStatus.{ReadyStatus}
use Rattle.kube_objects.specs.declared.node.ReadyStatus.TheVariants as ready
use Rattle.kube_objects.specs.declared.object.Object.{Object}
use Rattle.kube_objects.specs.declared.object.Object.TheVariants as object
use Rattle.kube_objects.specs.Clocks.{whole_second}
use Rattle.kube_objects.specs.Entry.{Entry}
use Rattle.kube_objects.specs.Stored.{Held, stored, next_version, key_of}

-- ---- objects by their kinds, with their versions

abbrev pub lease_in : Object → Option Lease
lease_in (object.Lease lease) = Some lease
lease_in _ = None

abbrev pub node_in : Object → Option Node
node_in (object.Node node) = Some node
node_in _ = None

abbrev pub versioned : {A : Type 0} → Version → Option A → Option (Version × A)
versioned version None = None
versioned version (Some x) = Some (version, x)

abbrev pub as_kind : {A : Type 0} → (Object → Option A) → Option Held → Option (Version × A)
as_kind f None = None
as_kind f (Some x) = versioned x.version (f x.object)

-- ---- a status that is posted

abbrev pub same_status : ReadyStatus → ReadyStatus → Bool
same_status ready.True ready.True = true
same_status ready.False ready.False = true
same_status ready.Unknown ready.Unknown = true
same_status _ _ = false

abbrev pub kubelet_reason : ReadyStatus → ℕ
kubelet_reason ready.True = KUBELET_READY
kubelet_reason _ = KUBELET_NOT_READY

-- whether a heartbeat is less than five minutes old
abbrev pub is_recent : ℕ → Option Wall → Bool
is_recent at None = false
is_recent at (Some heartbeat) = nat_lt at (heartbeat.0 + 300000000)

abbrev pub posted_as : ReadyStatus → ℕ → Option Wall → Ready
posted_as status at transition =
    record { status = status; reason = kubelet_reason status; heartbeat = Some (record { 0 = at }); transition = transition }

-- what a status makes of Ready at a whole second, where it changes anything
abbrev pub posted_ready : ReadyStatus → ℕ → Option Ready → Option Ready
posted_ready status at None = Some (posted_as status at (Some (record { 0 = at })))
posted_ready status at (Some r) =
    cond (same_status r.status status)
    (cond (is_recent at r.heartbeat) None (Some (posted_as status at r.transition)))
    (Some (posted_as status at (Some (record { 0 = at }))))

abbrev pub with_ready : Node → Option Ready → Option Node
with_ready node None = None
with_ready node (Some r) = Some (record node { ready = Some r })

-- the node that a status writes
abbrev pub posted_node : ReadyStatus → ℕ → Option (Version × Node) → Option Node
posted_node status at None = None
posted_node status at (Some x) = with_ready x.1 (posted_ready status (whole_second at) x.1.ready)

-- ---- answers

abbrev pub answer_get : Option (Version × Lease) → Reply
answer_get None = reply.Absent
answer_get (Some x) = reply.Found x.0 x.1

abbrev pub answer_create : Version → Option Held → Reply
answer_create next None = reply.Done next
answer_create next (Some x) = reply.Exists

abbrev pub answer_update : Version → Version → Option Held → Reply
answer_update next given None = reply.Absent
answer_update next given (Some x) = cond (x.version.0 == given.0) (reply.Done next) (reply.Conflict x.version)

abbrev pub answer_post : Version → Option (Version × Node) → Option Node → Reply
answer_post next None written = reply.Absent
answer_post next (Some x) None = reply.Unchanged
answer_post next (Some x) (Some node) = reply.Done next

-- next is the version that a write would get
abbrev pub answer_over : Version → Option Held → Request → Reply
answer_over next x (Get key) = answer_get (as_kind lease_in x)
answer_over next x (Create key lease) = answer_create next x
answer_over next x (Update key given lease) = answer_update next given x
answer_over next x (PostStatus name status at) = answer_post next (as_kind node_in x) (posted_node status at.0 (as_kind node_in x))

-- the answer to a request
abbrev pub answer : Request → List Entry → Reply
answer request h = answer_over (next_version h) (stored (key_of request) h) request

-- ---- what an answered request wrote

abbrev pub if_done : Reply → Object → Option Object
if_done (reply.Done version) x = Some x
if_done _ x = None

abbrev pub node_object : Option Node → Option Object
node_object None = None
node_object (Some node) = Some (object.Node node)

abbrev pub written_over : Option Held → Request → Reply → Option Object
written_over x (Get key) answered = None
written_over x (Create key lease) answered = if_done answered (object.Lease lease)
written_over x (Update key given lease) answered = if_done answered (object.Lease lease)
written_over x (PostStatus name status at) answered = node_object (posted_node status at.0 (as_kind node_in x))

-- the object that a request writes
abbrev pub written : Request → List Entry → Option Object
written request h = written_over (stored (key_of request) h) request (answer request h)
