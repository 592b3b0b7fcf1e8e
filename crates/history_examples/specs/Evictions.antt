-- Evictions, and writes that are refused or lost.
use Rattle.std.specs.Prelude.{◌≡◌, ℕ, true, false, List, [], ◌∷◌, ◌++◌}
use Rattle.kube_objects.specs.declared.call.Answer.TheVariants as answer
use Rattle.kube_objects.specs.declared.deed.Act.TheVariants as act
use Rattle.kube_objects.specs.declared.key.Key.{Key}
use Rattle.kube_objects.specs.declared.node.ReadyStatus.TheVariants as ready
use Rattle.kube_objects.specs.declared.object.Object.{Object}
use Rattle.kube_objects.specs.Document.{Doc}
use Rattle.kube_objects.specs.Stored.{node_key}
use Rattle.kube_objects.specs.Tainting.{not_ready}
use Rattle.history.specs.History.{whole_history}
use Rattle.history.specs.Printed.{printed}
use Rattle.history_examples.specs.Documents.{settings, at_beat, loss, line, script_line}
use Rattle.history_examples.specs.Clusters.{n1, n2, zone_a, default, in_normal_zone, p1, p2, cluster, second, condition, node}
use Rattle.history_examples.specs.Clusters.{tolerating, pod_at, pod, puts, removes, watch, version, done, conflict}

-- a node that is not ready, and has the taint of that
abbrev pub tainted_node : Key × Object
tainted_node = node n1 zone_a ready.False (condition not_ready 0 ∷ [])

-- with another node, and a pod that tolerates the taint for ten seconds
abbrev pub one_pod : List (Key × Object)
one_pod = tainted_node ∷ node n2 zone_a ready.True [] ∷ pod p1 n1 (tolerating not_ready 10 ∷ []) ∷ []

-- and a second pod, which tolerates it for so many seconds
abbrev pub two_pods : ℕ → List (Key × Object)
two_pods seconds = one_pod ++ pod p2 n1 (tolerating not_ready seconds ∷ []) ∷ []

-- A delete is refused by the version of the node that was put while the watch was off. The pod stays, since the node has no taint.
abbrev pub unseen_put : Doc
unseen_put = cluster (settings 130)
    one_pod
    (at_beat 50 (watch 0 false)
    ∷ puts 60 (node n1 zone_a ready.True [])
    ∷ at_beat 120 (watch 0 true)
    ∷ [])

abbrev pub UnseenPut : Type 0
UnseenPut = printed (whole_history unseen_put) ≡
    in_normal_zone 4
    ++ script_line 60 (act.Put (node_key n1) (version 6))
    ∷ line 100 0 1 (act.Evicted (pod_at default p1) (second 10) (conflict 6))
    ∷ []

-- Where the node was put as it was, the delete comes with the sync.
abbrev pub unseen_put_of_the_same : Doc
unseen_put_of_the_same = cluster (settings 130)
    one_pod
    (at_beat 50 (watch 0 false)
    ∷ puts 60 tainted_node
    ∷ at_beat 120 (watch 0 true)
    ∷ [])

abbrev pub UnseenPutOfTheSame : Type 0
UnseenPutOfTheSame = printed (whole_history unseen_put_of_the_same) ≡
    in_normal_zone 4
    ++ script_line 60 (act.Put (node_key n1) (version 6))
    ∷ line 100 0 1 (act.Evicted (pod_at default p1) (second 10) (conflict 6))
    ∷ line 120 0 1 (act.Evicted (pod_at default p1) (second 10) (done 7))
    ∷ []

-- A lost delete is tried again at each tick.
abbrev pub lost_deletes : Doc
lost_deletes = cluster (settings 121)
    one_pod
    (at_beat 90 (loss 0 true false)
    ∷ at_beat 120 (loss 0 false false)
    ∷ [])

abbrev pub LostDeletes : Type 0
LostDeletes = printed (whole_history lost_deletes) ≡
    in_normal_zone 4
    ++ line 120 0 1 (act.Evicted (pod_at default p1) (second 10) (done 6))
    ∷ []

-- Each pod's delete is refused by the node's version, once, and made after the sync of beat 120.
abbrev pub refused_by_the_node : Doc
refused_by_the_node = cluster (settings 130)
    (two_pods 11)
    (at_beat 50 (watch 0 false)
    ∷ puts 60 tainted_node
    ∷ at_beat 120 (watch 0 true)
    ∷ [])

abbrev pub RefusedByTheNode : Type 0
RefusedByTheNode = printed (whole_history refused_by_the_node) ≡
    in_normal_zone 5
    ++ script_line 60 (act.Put (node_key n1) (version 7))
    ∷ line 100 0 1 (act.Evicted (pod_at default p1) (second 10) (conflict 7))
    ∷ line 110 0 1 (act.Evicted (pod_at default p2) (second 11) (conflict 7))
    ∷ line 120 0 1 (act.Evicted (pod_at default p1) (second 10) (done 8))
    ∷ line 120 0 1 (act.Evicted (pod_at default p2) (second 11) (done 9))
    ∷ []

-- One pod was replaced and its node put, both unseen: the conflict tells the pod's version. The other pod is gone. The new pod tolerates
-- the taint for longer.
abbrev pub refused_by_the_pod : Doc
refused_by_the_pod = cluster (settings 130)
    (two_pods 10)
    (at_beat 50 (watch 0 false)
    ∷ removes 60 (pod_at default p1)
    ∷ puts 60 (pod p1 n1 (tolerating not_ready 300 ∷ []))
    ∷ puts 60 tainted_node
    ∷ removes 60 (pod_at default p2)
    ∷ at_beat 120 (watch 0 true)
    ∷ [])

abbrev pub RefusedByThePod : Type 0
RefusedByThePod = printed (whole_history refused_by_the_pod) ≡
    in_normal_zone 5
    ++ script_line 60 (act.Removed (pod_at default p1) (version 7))
    ∷ script_line 60 (act.Put (pod_at default p1) (version 8))
    ∷ script_line 60 (act.Put (node_key n1) (version 9))
    ∷ script_line 60 (act.Removed (pod_at default p2) (version 10))
    ∷ line 100 0 1 (act.Evicted (pod_at default p1) (second 10) (conflict 8))
    ∷ line 100 0 1 (act.Evicted (pod_at default p2) (second 10) answer.Absent)
    ∷ []

-- The untaints of beats 40 to 69 are lost. That of beat 70 is refused, since the node was put at beat 60 with the watch off, and isn't
-- tried again before the sync of beat 80.
abbrev pub stale_untaint : Doc
stale_untaint = cluster (settings 90)
    (node n1 zone_a ready.True []
    ∷ node n2 zone_a ready.True []
    ∷ [])
    (at_beat 30 (loss 0 true false)
    ∷ puts 40 (node n1 zone_a ready.True (condition not_ready 0 ∷ []))
    ∷ at_beat 50 (watch 0 false)
    ∷ puts 60 (node n1 zone_a ready.True (condition not_ready 0 ∷ []))
    ∷ at_beat 70 (loss 0 false false)
    ∷ at_beat 80 (watch 0 true)
    ∷ [])

abbrev pub StaleUntaint : Type 0
StaleUntaint = printed (whole_history stale_untaint) ≡
    in_normal_zone 3
    ++ script_line 40 (act.Put (node_key n1) (version 5))
    ∷ script_line 60 (act.Put (node_key n1) (version 6))
    ∷ line 70 0 1 (act.Untainted n1 (conflict 6))
    ∷ line 80 0 1 (act.Untainted n1 (done 7))
    ∷ []

-- One pod's deletes are lost until beat 104, the other's from beat 110 on; meanwhile that one's due moves to second 12.
abbrev pub due_moves_while_lost : Doc
due_moves_while_lost = cluster (settings 130)
    (two_pods 11)
    (at_beat 95 (loss 0 true false)
    ∷ at_beat 105 (loss 0 false false)
    ∷ at_beat 108 (loss 0 true false)
    ∷ puts 112 (node n1 zone_a ready.False (condition not_ready 1 ∷ []))
    ∷ at_beat 115 (loss 0 false false)
    ∷ [])

abbrev pub DueMovesWhileLost : Type 0
DueMovesWhileLost = printed (whole_history due_moves_while_lost) ≡
    in_normal_zone 5
    ++ line 105 0 1 (act.Evicted (pod_at default p1) (second 10) (done 7))
    ∷ script_line 112 (act.Put (node_key n1) (version 8))
    ∷ line 120 0 1 (act.Evicted (pod_at default p2) (second 12) (done 9))
    ∷ []

-- At beat 100 the time of day is the pod's due.
abbrev pub exactly_due : Doc
exactly_due = cluster (settings 105)
    one_pod
    []

abbrev pub ExactlyDue : Type 0
ExactlyDue = printed (whole_history exactly_due) ≡
    in_normal_zone 4
    ++ line 100 0 1 (act.Evicted (pod_at default p1) (second 10) (done 6))
    ∷ []

-- With an epoch one microsecond earlier it isn't yet.
abbrev pub not_yet_due : Doc
not_yet_due = cluster (record (settings 105) { epoch = record { 0 = 1704067199999999 } })
    one_pod
    []

abbrev pub NotYetDue : Type 0
NotYetDue = printed (whole_history not_yet_due) ≡
    in_normal_zone 4
    ++ line 101 0 1 (act.Evicted (pod_at default p1) (second 10) (done 6))
    ∷ []
