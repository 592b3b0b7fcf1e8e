-- How the store answers a delete of a pod, which names the versions of the pod and of its node.
-- Source: Kubernetes API concepts, resource versions; that the node's version counts too is the profile's.
use Rattle.std.specs.Prelude.{◌==◌, cond, List, Option, Some, None}
use Rattle.kube_base.specs.declared.numbers.Version.{Version}
use Rattle.kube_objects.specs.declared.call.Reply.{Reply}
use Rattle.kube_objects.specs.declared.call.Reply.TheVariants as reply
use Rattle.kube_objects.specs.declared.key.Key.{Key}
use Rattle.kube_objects.specs.Entry.{Entry}
use Rattle.kube_objects.specs.Stored.{Held, stored, next_version}

abbrev pub delete_at_node : Version → Version → Option Held → Reply
delete_at_node next node_given None = reply.Absent
delete_at_node next node_given (Some node) = cond (node.version.0 == node_given.0) (reply.Done next) (reply.Conflict node.version)

-- the pod's conflict comes before the node's, and what is absent before both
abbrev pub delete_over : Version → Version → Version → Option Held → Option Held → Reply
delete_over next given node_given None _ = reply.Absent
delete_over next given node_given (Some pod) None = reply.Absent
delete_over next given node_given (Some pod) (Some node) =
    cond (pod.version.0 == given.0) (delete_at_node next node_given (Some node)) (reply.Conflict pod.version)

abbrev pub answer_delete : Key → Version → Key → Version → List Entry → Reply
answer_delete pod given node node_given h = delete_over (next_version h) given node_given (stored pod h) (stored node h)

-- ---- a delete that names the pod's version alone. Source: the same; Kubernetes 1.20's own names no version

abbrev pub delete_alone_over : Version → Version → Option Held → Reply
delete_alone_over next given None = reply.Absent
delete_alone_over next given (Some pod) = cond (pod.version.0 == given.0) (reply.Done next) (reply.Conflict pod.version)

abbrev pub answer_delete_alone : Key → Version → List Entry → Reply
answer_delete_alone pod given h = delete_alone_over (next_version h) given (stored pod h)

-- where a delete's entry names no version of a node
abbrev pub no_version : Version
no_version = record { 0 = 0 }
