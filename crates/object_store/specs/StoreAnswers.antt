-- What the store answers to its own calls after a history. Source: Kubernetes API concepts, resource versions; profile.
use Rattle.std.specs.Prelude.{◌≡◌, List, [], ◌∷◌, ◌++◌, Option, Some, None, Result, Ok, Err}
use Rattle.kube_base.specs.declared.memory.NoMemory.{NoMemory}
use Rattle.kube_base.specs.declared.numbers.Version.{Version}
use Rattle.kube_objects.specs.declared.call.Reply.{Reply}
use Rattle.kube_objects.specs.declared.call.Reply.TheVariants as reply
use Rattle.kube_objects.specs.declared.key.Key.{Key}
use Rattle.kube_objects.specs.declared.object.Object.{Object}
use Rattle.kube_objects.specs.declared.lease.Lease.{Lease}
use Rattle.kube_objects.specs.Answers.{lease_in, versioned}
use Rattle.kube_objects.specs.Entry.{Entry}
use Rattle.kube_objects.specs.Newest.{has, when}
use Rattle.kube_objects.specs.Stored.{Held, Write, stored, write_of, next_version}
use Rattle.object_store.specs.declared.faults.Posted.{Posted}
use Rattle.object_store.specs.declared.faults.Posted.TheVariants as posted
use Rattle.object_store.specs.declared.faults.StoreFault.{StoreFault}
use Rattle.object_store.specs.declared.faults.StoreFault.TheVariants as fault

-- ---- the list of changes: the key of each accepted write, the oldest first

abbrev pub and_key : Option Write → List Key → List Key
and_key None keys = keys
and_key (Some write) keys = keys ++ write.0 ∷ []

abbrev pub changed_keys : List Entry → List Key
changed_keys [] = []
changed_keys (e ∷ h) = and_key (write_of e.fact) (changed_keys h)

-- ---- what is stored, as a look-up shows it

abbrev pub kept_of : Option Held → Option (Version × Object)
kept_of None = None
kept_of (Some x) = Some (x.version, x.object)

-- the stored object, without its version
abbrev pub object_of : Option Held → Option Object
object_of None = None
object_of (Some x) = Some x.object

-- a Lease that a look-up shows, with its version
abbrev pub lease_pair : Option (Version × Object) → Option (Version × Lease)
lease_pair None = None
lease_pair (Some p) = versioned p.0 (lease_in p.1)

-- ---- the store's own calls

-- the version that a removal writes, where the key is stored
abbrev pub answer_remove : Key → List Entry → Option Version
answer_remove key h = when (has (stored key h)) (next_version h)

-- ---- a result tells this reply, or that memory ran out

abbrev pub IsReply : Result Version StoreFault → Reply → Type 0
IsReply (Ok version) answered = answered ≡ reply.Done version
IsReply (Err fault.Absent) answered = answered ≡ reply.Absent
IsReply (Err fault.Exists) answered = answered ≡ reply.Exists
IsReply (Err (fault.Conflict version)) answered = answered ≡ reply.Conflict version
IsReply (Err fault.NoMemory) answered = Unit {0}

abbrev pub IsReplyToPost : Result Posted StoreFault → Reply → Type 0
IsReplyToPost (Ok (posted.Done version)) answered = answered ≡ reply.Done version
IsReplyToPost (Ok posted.Unchanged) answered = answered ≡ reply.Unchanged
IsReplyToPost (Err fault.Absent) answered = answered ≡ reply.Absent
IsReplyToPost (Err fault.Exists) answered = answered ≡ reply.Exists
IsReplyToPost (Err (fault.Conflict version)) answered = answered ≡ reply.Conflict version
IsReplyToPost (Err fault.NoMemory) answered = Unit {0}

-- where a post wrote nothing, this holds
abbrev pub UnlessPosted : Result Posted StoreFault → Type 0 → Type 0
UnlessPosted (Ok (posted.Done version)) holds = Unit {0}
UnlessPosted (Ok posted.Unchanged) holds = holds
UnlessPosted (Err fault) holds = holds

-- ---- a result as a reply

abbrev pub reply_of : Result Version StoreFault → Result Reply NoMemory
reply_of (Ok version) = Ok (reply.Done version)
reply_of (Err fault.Absent) = Ok reply.Absent
reply_of (Err fault.Exists) = Ok reply.Exists
reply_of (Err (fault.Conflict version)) = Ok (reply.Conflict version)
reply_of (Err fault.NoMemory) = Err (record {})

abbrev pub reply_of_post : Result Posted StoreFault → Result Reply NoMemory
reply_of_post (Ok (posted.Done version)) = Ok (reply.Done version)
reply_of_post (Ok posted.Unchanged) = Ok reply.Unchanged
reply_of_post (Err fault.Absent) = Ok reply.Absent
reply_of_post (Err fault.Exists) = Ok reply.Exists
reply_of_post (Err (fault.Conflict version)) = Ok (reply.Conflict version)
reply_of_post (Err fault.NoMemory) = Err (record {})
