-- What is stored: the content of a key's last accepted write. A resourceVersion is the number of accepted
-- writes of the store up to and including a write. Source: Kubernetes API concepts, resource versions; profile.
use Rattle.std.specs.Prelude.{ℕ, ◌+◌, List, Option, Some, None}
use Rattle.kube_base.specs.declared.fixed.TheConstants.{KUBE_SYSTEM, KUBE_CONTROLLER_MANAGER, KUBE_NODE_LEASE}
use Rattle.kube_base.specs.declared.numbers.Version.{Version}
use Rattle.kube_objects.specs.declared.call.Answer.{Answer}
use Rattle.kube_objects.specs.declared.call.Answer.TheVariants as answer
use Rattle.kube_objects.specs.declared.call.Request.{Request}
use Rattle.kube_objects.specs.declared.call.Request.TheVariants.{Get, Create, Update, PostStatus}
use Rattle.kube_objects.specs.declared.deed.Actor.{Actor}
use Rattle.kube_objects.specs.declared.key.Key.{Key}
use Rattle.kube_objects.specs.declared.key.Kind.TheVariants as kind
use Rattle.kube_objects.specs.declared.node.Node.{Node}
use Rattle.kube_objects.specs.declared.object.Object.{Object}
use Rattle.kube_objects.specs.declared.object.Object.TheVariants as object
use Rattle.kube_objects.specs.declared.script.What.{What}
use Rattle.kube_objects.specs.declared.script.What.TheVariants.{Put, Remove}
use Rattle.kube_objects.specs.Entry.{Entry, Identity, Fact, First, Event, Answers, Ticks, Tick, Mark, Untaint, Swap, Head, Delete}
use Rattle.kube_objects.specs.Identities.{identity_of}
use Rattle.kube_objects.specs.Keys.{key_eq}
use Rattle.kube_objects.specs.Newest.{newest, count, has, join, when}

-- ---- keys with a meaning

-- the Lease kube-system/kube-controller-manager
abbrev pub election : Key
election = record { kind = kind.Lease; space = KUBE_SYSTEM; name = KUBE_CONTROLLER_MANAGER }

-- the Lease kube-node-lease/NODE
abbrev pub node_lease : ℕ → Key
node_lease name = record { kind = kind.Lease; space = KUBE_NODE_LEASE; name = name }

abbrev pub node_key : ℕ → Key
node_key name = record { kind = kind.Node; space = 0; name = name }

-- ---- writes

-- a write: its key, and what is there afterwards
abbrev pub Write : Type 0
Write = Key × Option Object

abbrev pub key_of : Request → Key
key_of (Get key) = key
key_of (Create key lease) = key
key_of (Update key version lease) = key
key_of (PostStatus name status at) = node_key name

-- a request's write, where it wrote an object
abbrev pub request_write : Request → Option Object → Option Write
request_write request None = None
request_write request (Some object) = Some (key_of request, Some object)

abbrev pub event_write : What → Option Version → Option Write
event_write (Put key object) version = Some (key, Some object)
event_write (Remove key) version = when (has version) (key, None)
event_write _ version = None

-- a try of a tick is a write where it was answered Done
abbrev pub try_write : Write → Option Answer → Option Write
try_write write (Some (answer.Done version)) = Some write
try_write write _ = None

abbrev pub node_write : ℕ → Node → Write
node_write name node = (node_key name, Some (object.Node node))

abbrev pub tick_write : Tick → Option Write
tick_write (Mark name given node answer) = try_write (node_write name node) answer
tick_write (Untaint name given node answer) = try_write (node_write name node) answer
tick_write (Swap name wanted given node answer) = try_write (node_write name node) answer
tick_write (Head place name wanted given node answer) = try_write (node_write name node) answer
tick_write (Delete pod given node_given due answer) = try_write (pod, None) answer
tick_write _ = None

-- the accepted write that an entry is, read from its fact alone
abbrev pub write_of : Fact → Option Write
write_of (First key object) = Some (key, Some object)
write_of (Event what version) = event_write what version
write_of (Answers call reply comes written) = request_write call.request written
write_of (Ticks tick) = tick_write tick
write_of _ = None

-- the number of accepted writes
abbrev pub writes : List Entry → ℕ
writes = count (λ e. has (write_of e.fact))

-- the version that the next write gets
abbrev pub next_version : List Entry → Version
next_version h = record { 0 = writes h + 1 }

-- ---- what is stored

-- the last write of a key: its version, content, beat and writer
pub record Held : Type 0 where
  pub version : Version
  pub object : Object
  pub beat : ℕ
  pub by : Option Identity

abbrev pub held_as : Version → ℕ → Actor → Option Object → Option Held
held_as version beat who None = None
held_as version beat who (Some object) = Some (record { version = version; object = object; beat = beat; by = identity_of who })

-- what a write leaves at a key, where it is of that key
abbrev pub at_key : Key → Option Write → Option (Option Object)
at_key key None = None
at_key key (Some write) = when (key_eq write.0 key) write.1

-- h is the history before the write
abbrev pub holds : List Entry → ℕ → Actor → Option (Option Object) → Option (Option Held)
holds h beat who None = None
holds h beat who (Some object) = Some (held_as (next_version h) beat who object)

abbrev pub last_write : Key → List Entry → Option (Option Held)
last_write key = newest (λ e h. holds h e.beat e.actor (at_key key (write_of e.fact)))

abbrev pub stored : Key → List Entry → Option Held
stored key h = join (last_write key h)
