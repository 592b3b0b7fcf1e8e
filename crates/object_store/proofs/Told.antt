-- What is stored where the store's map shows something, and what the store then answers.
use Rattle.std.proofs.Common.{◌≡◌, ℕ, ◌==◌, Bool, true, false, cond, List, ◌∷◌, Option, Some, None, Result, Ok, Err, IfOk, OnOk, OnErr, refl, sym, ap, ◌∙◌}
use Rattle.kube_base.specs.declared.numbers.Version.{Version}
use Rattle.kube_objects.specs.declared.call.Reply.{Reply}
use Rattle.kube_objects.specs.declared.call.Reply.TheVariants as reply
use Rattle.kube_objects.specs.declared.call.Request.{Request}
use Rattle.kube_objects.specs.declared.node.Node.{Node}
use Rattle.kube_objects.specs.declared.node.ReadyStatus.{ReadyStatus}
use Rattle.kube_objects.specs.declared.object.Object.{Object}
use Rattle.kube_objects.specs.Answers.{answer_create, answer_update, answer_post, as_kind, node_in, versioned, posted_node, posted_ready, with_ready, if_done, node_object}
use Rattle.kube_objects.specs.Clocks.{whole_second}
use Rattle.kube_objects.specs.Deletes.{delete_over, delete_alone_over}
use Rattle.kube_objects.specs.Entry.{Entry}
use Rattle.kube_objects.specs.Newest.{has}
use Rattle.kube_objects.specs.Stored.{Held, write_of, request_write, key_of}
use Rattle.object_store.specs.declared.faults.Posted.{Posted}
use Rattle.object_store.specs.declared.faults.Posted.TheVariants as posted
use Rattle.object_store.specs.declared.faults.StoreFault.{StoreFault}
use Rattle.object_store.specs.declared.faults.StoreFault.TheVariants as fault
use Rattle.object_store.specs.declared.store.Store.{Store}
use Rattle.object_store.specs.Stands.{StoreStands, version_in, node_in_pair}
use Rattle.object_store.specs.StoreAnswers.{kept_of, IsReply, IsReplyToPost, UnlessPosted, reply_of, reply_of_post}
use Rattle.object_store.proofs.Keeps.{store-beside}

abbrev number_of : Option Version → ℕ
number_of None = 0
number_of (Some v) = v.0

-- ---- by the version that is shown

pub create-told : (next : Version) (x : Option Held) → version_in (kept_of x) ≡ None → answer_create next x ≡ reply.Done next
create-told next None none = refl
create-told next (Some x) none = absurd (cc)

pub update-told : (next given held : Version) (x : Option Held) → version_in (kept_of x) ≡ Some held → (held.0 == given.0) ≡ true → answer_update next given x ≡ reply.Done next
update-told next given held None is same = absurd (cc)
update-told next given held (Some x) is same = ap (λ b. cond b (reply.Done next) (reply.Conflict x.version)) (ap (λ n. n == given.0) (ap number_of is) ∙ same)

pub delete-told : (next given node_given held node_held : Version) (x y : Option Held) → version_in (kept_of x) ≡ Some held → version_in (kept_of y) ≡ Some node_held → (held.0 == given.0) ≡ true → (node_held.0 == node_given.0) ≡ true → delete_over next given node_given x y ≡ reply.Done next
delete-told next given node_given held node_held None y is node_is same node_same = absurd (cc)
delete-told next given node_given held node_held (Some x) None is node_is same node_same = absurd (cc)
delete-told next given node_given held node_held (Some x) (Some y) is node_is same node_same =
    ap (λ b. cond b (cond (y.version.0 == node_given.0) (reply.Done next) (reply.Conflict y.version)) (reply.Conflict x.version)) (ap (λ n. n == given.0) (ap number_of is) ∙ same)
    ∙ ap (λ b. cond b (reply.Done next) (reply.Conflict y.version)) (ap (λ n. n == node_given.0) (ap number_of node_is) ∙ node_same)

pub delete-alone-told : (next given held : Version) (x : Option Held) → version_in (kept_of x) ≡ Some held → (held.0 == given.0) ≡ true → delete_alone_over next given x ≡ reply.Done next
delete-alone-told next given held None is same = absurd (cc)
delete-alone-told next given held (Some x) is same = ap (λ b. cond b (reply.Done next) (reply.Conflict x.version)) (ap (λ n. n == given.0) (ap number_of is) ∙ same)

pub has-shown : (v : Version) (x : Option Held) → version_in (kept_of x) ≡ Some v → has x ≡ true
has-shown v None is = absurd (cc)
has-shown v (Some x) is = refl

-- ---- by the node that is shown

pub post-node : (status : ReadyStatus) (at : ℕ) (node : Node) (x : Option Held) → node_in_pair (kept_of x) ≡ Some node → posted_node status at (as_kind node_in x) ≡ with_ready node (posted_ready status (whole_second at) node.ready)
post-node status at node None is = absurd (cc)
post-node status at node (Some x) is = ap (λ o. posted_node status at (versioned x.version o)) is

pub post-told : (next : Version) (node written : Node) (x : Option Held) → node_in_pair (kept_of x) ≡ Some node → answer_post next (as_kind node_in x) (Some written) ≡ reply.Done next
post-told next node written None is = absurd (cc)
post-told next node written (Some x) is = ap (λ o. answer_post next (versioned x.version o) (Some written)) is

-- a status is answered Absent, Unchanged or Done
abbrev is_post : Reply → Bool
is_post (reply.Done version) = true
is_post reply.Absent = true
is_post reply.Unchanged = true
is_post _ = false

post-is : (next : Version) (k : Option (Version × Node)) (w : Option Node) → is_post (answer_post next k w) ≡ true
post-is next None w = refl
post-is next (Some x) None = refl
post-is next (Some x) (Some node) = refl

unposted : (next : Version) (status : ReadyStatus) (at : ℕ) (k : Option (Version × Node)) → answer_post next k (posted_node status at k) ≡ reply.Absent → posted_node status at k ≡ None
unposted next status at None is = refl
unposted next status at (Some x) is = by_written (posted_node status at (Some x)) is
  where
    by_written : (w : Option Node) → answer_post next (Some x) w ≡ reply.Absent → w ≡ None
    by_written None is = refl
    by_written (Some node) is = absurd (cc)

-- ---- a whole request

pub answered-told : (a : Reply) (r : Result Version StoreFault) → IsReply r a → IfOk (reply_of r) (λ x. x ≡ a)
answered-told a (Ok v) told = sym told
answered-told a (Err fault.Absent) told = sym told
answered-told a (Err fault.Exists) told = sym told
answered-told a (Err (fault.Conflict v)) told = sym told
answered-told a (Err fault.NoMemory) told = tt

pub answered-stands : (h : List Entry) (e : Entry) (new : Store) (request : Request) (x : Object) (a : Reply) (r : Result Version StoreFault) → IsReply r a → write_of e.fact ≡ request_write request (if_done a x) → (write_of e.fact ≡ Some (key_of request, Some x) → OnOk r (StoreStands (e ∷ h) new)) → OnErr r (StoreStands h new) → OnOk (reply_of r) (StoreStands (e ∷ h) new)
answered-stands h e new request x a (Ok v) told is ok err = ok (is ∙ ap (λ a. request_write request (if_done a x)) told)
answered-stands h e new request x a (Err fault.Absent) told is ok err = store-beside h e new err (is ∙ ap (λ a. request_write request (if_done a x)) told)
answered-stands h e new request x a (Err fault.Exists) told is ok err = store-beside h e new err (is ∙ ap (λ a. request_write request (if_done a x)) told)
answered-stands h e new request x a (Err (fault.Conflict v)) told is ok err = store-beside h e new err (is ∙ ap (λ a. request_write request (if_done a x)) told)
answered-stands h e new request x a (Err fault.NoMemory) told is ok err = tt

pub answered-err : (h : List Entry) (new : Store) (r : Result Version StoreFault) → OnErr r (StoreStands h new) → OnErr (reply_of r) (StoreStands h new)
answered-err h new (Ok v) err = tt
answered-err h new (Err fault.Absent) err = tt
answered-err h new (Err fault.Exists) err = tt
answered-err h new (Err (fault.Conflict v)) err = tt
answered-err h new (Err fault.NoMemory) err = err

pub posted-told : (a : Reply) (r : Result Posted StoreFault) → IsReplyToPost r a → IfOk (reply_of_post r) (λ x. x ≡ a)
posted-told a (Ok (posted.Done v)) told = sym told
posted-told a (Ok posted.Unchanged) told = sym told
posted-told a (Err fault.Absent) told = sym told
posted-told a (Err fault.Exists) told = sym told
posted-told a (Err (fault.Conflict v)) told = sym told
posted-told a (Err fault.NoMemory) told = tt

pub posted-stands : (h : List Entry) (e : Entry) (new : Store) (request : Request) (next : Version) (status : ReadyStatus) (at : ℕ) (k : Option (Version × Node)) (r : Result Posted StoreFault) → IsReplyToPost r (answer_post next k (posted_node status at k)) → write_of e.fact ≡ request_write request (node_object (posted_node status at k)) → OnOk r (StoreStands (e ∷ h) new) → UnlessPosted r (StoreStands h new) → OnOk (reply_of_post r) (StoreStands (e ∷ h) new)
posted-stands h e new request next status at k (Ok (posted.Done v)) told is ok same = ok
posted-stands h e new request next status at k (Ok posted.Unchanged) told is ok same = ok
posted-stands h e new request next status at k (Err fault.Absent) told is ok same = store-beside h e new same (is ∙ ap (λ w. request_write request (node_object w)) (unposted next status at k told))
posted-stands h e new request next status at k (Err fault.Exists) told is ok same = let never : true ≡ false = sym (post-is next k (posted_node status at k)) ∙ ap is_post told in absurd (cc)
posted-stands h e new request next status at k (Err (fault.Conflict v)) told is ok same = let never : true ≡ false = sym (post-is next k (posted_node status at k)) ∙ ap is_post told in absurd (cc)
posted-stands h e new request next status at k (Err fault.NoMemory) told is ok same = tt

pub posted-err : (h : List Entry) (new : Store) (r : Result Posted StoreFault) → UnlessPosted r (StoreStands h new) → OnErr (reply_of_post r) (StoreStands h new)
posted-err h new (Ok (posted.Done v)) same = tt
posted-err h new (Ok posted.Unchanged) same = tt
posted-err h new (Err fault.Absent) same = tt
posted-err h new (Err fault.Exists) same = tt
posted-err h new (Err (fault.Conflict v)) same = tt
posted-err h new (Err fault.NoMemory) same = same
