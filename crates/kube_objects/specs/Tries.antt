-- How the store answers a write that a tick tries. None is a try that is lost: the controller's requests are being lost.
-- Source: Kubernetes API concepts, resource versions and preconditions of a delete; that a tick's writes take no time is the profile's.
use Rattle.std.specs.Prelude.{ℕ, not, List, Option, Some, None}
use Rattle.kube_base.specs.declared.numbers.Version.{Version}
use Rattle.kube_objects.specs.declared.call.Answer.{Answer}
use Rattle.kube_objects.specs.declared.call.Answer.TheVariants as answer
use Rattle.kube_objects.specs.declared.call.Reply.{Reply}
use Rattle.kube_objects.specs.declared.call.Reply.TheVariants as reply
use Rattle.kube_objects.specs.declared.key.Key.{Key}
use Rattle.kube_objects.specs.Answers.{answer_update}
use Rattle.kube_objects.specs.Deletes.{answer_delete, answer_delete_alone}
use Rattle.kube_objects.specs.Entry.{Entry, Identity}
use Rattle.kube_objects.specs.Newest.{only_if}
use Rattle.kube_objects.specs.Stored.{stored, next_version, node_key}
use Rattle.kube_objects.specs.Wire.{loses_requests}

-- a reply to a write
abbrev pub as_answer : Reply → Option Answer
as_answer (reply.Found version lease) = None
as_answer (reply.Done version) = Some (answer.Done version)
as_answer reply.Absent = Some answer.Absent
as_answer reply.Exists = Some answer.Exists
as_answer (reply.Conflict version) = Some (answer.Conflict version)
as_answer reply.Unchanged = None

-- the reply, where the controller's requests aren't being lost
abbrev pub tried : Identity → Reply → List Entry → Option Answer
tried q replied h = only_if (not (loses_requests q.process h)) (as_answer replied)

-- a try to write a node over a version of it
abbrev pub try_node : Identity → ℕ → Version → List Entry → Option Answer
try_node q name given h = tried q (answer_update (next_version h) given (stored (node_key name) h)) h

-- a try to delete a pod by its version and that of its node
abbrev pub try_delete : Identity → Key → Version → ℕ → Version → List Entry → Option Answer
try_delete q pod given node node_given h = tried q (answer_delete pod given (node_key node) node_given h) h

-- and by its version alone
abbrev pub try_delete_alone : Identity → Key → Version → List Entry → Option Answer
try_delete_alone q pod given h = tried q (answer_delete_alone pod given h) h
