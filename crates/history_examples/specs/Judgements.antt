-- Judgement at passes: pushes, the queue, buckets that start full, and what a term first sees.
use Rattle.std.specs.Prelude.{ℕ, true, false, List, [], ◌∷◌, ◌++◌}
use Rattle.kube_objects.specs.declared.deed.Act.TheVariants as act
use Rattle.kube_objects.specs.declared.deed.Deed.{Deed}
use Rattle.kube_objects.specs.declared.node.ReadyStatus.TheVariants as ready
use Rattle.kube_objects.specs.declared.node.Taint.{Taint}
use Rattle.kube_objects.specs.declared.node.ZoneState.TheVariants as zone
use Rattle.kube_objects.specs.declared.rules.BucketRule.TheVariants as buckets
use Rattle.kube_objects.specs.declared.rules.JudgeRule.TheVariants as judges
use Rattle.kube_objects.specs.declared.rules.ProbeRule.{ProbeRule}
use Rattle.kube_objects.specs.declared.rules.ProbeRule.TheVariants as probes
use Rattle.kube_objects.specs.declared.rules.QueueRule.{QueueRule}
use Rattle.kube_objects.specs.declared.rules.QueueRule.TheVariants as queues
use Rattle.kube_objects.specs.declared.rules.Rules.{Rules}
use Rattle.kube_objects.specs.declared.rules.SightRule.TheVariants as sights
use Rattle.kube_objects.specs.Document.{Doc}
use Rattle.kube_objects.specs.Rules.{own_rules}
use Rattle.kube_objects.specs.Stored.{node_key}
use Rattle.kube_objects.specs.Tainting.{not_ready, unreachable}
use Rattle.history_examples.specs.Documents.{settings, c1, c2, document, at_beat, crash, line, script_line, update, lead, elected, elected_of_two}
use Rattle.history_examples.specs.Clusters.{n1, n2, n3, n4, m1, m2, r1, zone_a, default, p1, p2, cluster, second, condition, condition_at}
use Rattle.history_examples.specs.Clusters.{node, unready_node, tolerating, pod_at, pod, puts, version, done}
use Rattle.history_examples.specs.Traces.{ruled, upstream_rules, tenth, HasTrace}

-- a condition taint of an hour before the epoch
abbrev pub old_condition : ℕ → Taint
old_condition key = condition_at key (record { 0 = 1704063600000000 })

abbrev pub at_passes : QueueRule → Rules
at_passes rule = record own_rules { judge = judges.Pass; queue = rule; bucket = buckets.Full }

-- ---- a queue that holds a node many times

abbrev pub two_unready : QueueRule → Doc
two_unready rule = cluster (ruled (at_passes rule) (settings 330))
    (node n1 zone_a ready.False []
    ∷ node n2 zone_a ready.False []
    ∷ node n3 zone_a ready.True []
    ∷ [])
    []

abbrev pub each_once : List Deed
each_once = elected 4
    ++ line 4 0 1 (act.Zone r1 zone_a zone.Normal 100)
    ∷ line 4 0 1 (act.Tainted n1 not_ready (done 5))
    ∷ line 7 0 1 (update 6 0)
    ∷ line 104 0 1 (act.Tainted n2 not_ready (done 7))
    ∷ []

-- The second node is pushed at 4, 54 and 104, and each push has its token.
abbrev pub PushedAgain : Type 0
PushedAgain = HasTrace (two_unready queues.Again) true (
    each_once
    ++ line 204 0 1 (act.Tainted n2 not_ready (done 8))
    ∷ line 304 0 1 (act.Tainted n2 not_ready (done 9))
    ∷ [])

abbrev pub PushedOnce : Type 0
PushedOnce = HasTrace (two_unready queues.Once) true each_once

-- a grace of a day; the second node is put ready with its taint, then not ready again, and meanwhile the third isn't ready
abbrev pub left_behind : Doc
left_behind = cluster (ruled (at_passes queues.Again) (record (settings 504) { grace_period_millis = 86400000 }))
    (node n1 zone_a ready.False []
    ∷ node n2 zone_a ready.False []
    ∷ node n3 zone_a ready.True []
    ∷ node n4 zone_a ready.True []
    ∷ node m1 zone_a ready.True []
    ∷ node m2 zone_a ready.True []
    ∷ [])
    (puts 110 (node n2 zone_a ready.True (condition not_ready 10 ∷ []))
    ∷ puts 160 (node n3 zone_a ready.False [])
    ∷ puts 310 (node n2 zone_a ready.False [])
    ∷ [])

-- The second node's pushes are of 4, 54 and 104. The first is taken at 104. The pass at 154 clears the node, which takes away one, so that
-- of 104 stands and the node doesn't count as pushed: it has the tokens of 204 and 304 and stays, before the third's of 204. From the pass
-- at 354 on it counts as pushed, so at 404 it goes.
abbrev pub PushLeftBehind : Type 0
PushLeftBehind = HasTrace left_behind true (
    elected 7
    ++ line 4 0 1 (act.Zone r1 zone_a zone.Normal 100)
    ∷ line 4 0 1 (act.Tainted n1 not_ready (done 8))
    ∷ line 7 0 1 (update 9 0)
    ∷ line 104 0 1 (act.Tainted n2 not_ready (done 10))
    ∷ script_line 110 (act.Put (node_key n2) (version 11))
    ∷ line 154 0 1 (act.Untainted n2 (done 12))
    ∷ script_line 160 (act.Put (node_key n3) (version 13))
    ∷ script_line 310 (act.Put (node_key n2) (version 14))
    ∷ line 404 0 1 (act.Tainted n2 not_ready (done 15))
    ∷ line 504 0 1 (act.Tainted n3 not_ready (done 16))
    ∷ [])

-- ---- the all-Full mode and a full bucket

-- The swap needs no token. The pass at 54 turns the mode on, untaints the first node, and clears both after it has pushed them. The one at
-- 104 pushes the first again; after a rate of 0 the bucket starts empty.
abbrev pub ModeAndFullBucket : Type 0
ModeAndFullBucket = HasTrace (cluster (ruled (at_passes queues.Again) (settings 210))
    (node n1 zone_a ready.False (old_condition unreachable ∷ [])
    ∷ node n2 zone_a ready.True []
    ∷ pod p1 n1 (tolerating not_ready 3 ∷ [])
    ∷ [])
    (puts 30 (node n2 zone_a ready.False [])
    ∷ puts 80 (node n2 zone_a ready.True [])
    ∷ [])) true (
    elected 4
    ++ line 4 0 1 (act.Zone r1 zone_a zone.Normal 100)
    ∷ line 4 0 1 (act.Swapped n1 not_ready (done 5))
    ∷ line 7 0 1 (update 6 0)
    ∷ script_line 30 (act.Put (node_key n2) (version 7))
    ∷ line 30 0 1 (act.Evicted (pod_at default p1) (second 3) (done 8))
    ∷ line 54 0 1 (act.Mode true)
    ∷ line 54 0 1 (act.Zone r1 zone_a zone.Full 0)
    ∷ line 54 0 1 (act.Untainted n1 (done 9))
    ∷ script_line 80 (act.Put (node_key n2) (version 10))
    ∷ line 104 0 1 (act.Mode false)
    ∷ line 104 0 1 (act.Zone r1 zone_a zone.Normal 100)
    ∷ line 204 0 1 (act.Tainted n1 not_ready (done 11))
    ∷ [])

-- ---- first sight

-- The first node loses both taints and has a new one; the others lose theirs, and the second gets its own anew by the full bucket.
abbrev pub StrippedAtFirstSight : Type 0
StrippedAtFirstSight = HasTrace
    (cluster (ruled (record own_rules { judge = judges.Pass; bucket = buckets.Full; first_sight = sights.Strip }) (settings 20))
    (node n1 zone_a ready.False (old_condition unreachable ∷ old_condition not_ready ∷ [])
    ∷ node n2 zone_a ready.Unknown (old_condition unreachable ∷ [])
    ∷ node n3 zone_a ready.True (old_condition not_ready ∷ [])
    ∷ [])
    []) true (
    elected 4
    ++ line 4 0 1 (act.Zone r1 zone_a zone.Normal 100)
    ∷ line 4 0 1 (act.Swapped n1 not_ready (done 5))
    ∷ line 4 0 1 (act.Untainted n2 (done 6))
    ∷ line 4 0 1 (act.Untainted n3 (done 7))
    ∷ line 4 0 1 (act.Tainted n2 unreachable (done 8))
    ∷ line 7 0 1 (update 9 0)
    ∷ [])

-- ---- the probe by what the passes keep

abbrev pub silent_nodes : ProbeRule → Doc
silent_nodes rule = cluster
    (ruled (record own_rules { probe = rule; judge = judges.Pass; bucket = buckets.Full }) (record (settings 504) { grace_period_millis = 20000 }))
    (node n1 zone_a ready.True []
    ∷ node n2 zone_a ready.True []
    ∷ [])
    (puts 200 (unready_node n1 zone_a [])
    ∷ puts 240 (node n1 zone_a ready.True [])
    ∷ [])

-- The passes at 204 and 254 renew the first node, the second although the heartbeat is the old one. The other one, first seen at 4, is
-- marked at 254 and judged Unknown at 304. At 504 the first is marked and judged True.
abbrev pub ProbeOfTheRecord : Type 0
ProbeOfTheRecord = HasTrace (silent_nodes probes.Record) true (
    elected 3
    ++ line 4 0 1 (act.Zone r1 zone_a zone.Normal 100)
    ∷ line 7 0 1 (update 4 0)
    ∷ script_line 200 (act.Put (node_key n1) (version 5))
    ∷ script_line 240 (act.Put (node_key n1) (version 6))
    ∷ line 254 0 1 (act.Marked n2 3 (done 7))
    ∷ line 304 0 1 (act.Tainted n2 unreachable (done 8))
    ∷ line 504 0 1 (act.Marked n1 3 (done 9))
    ∷ line 504 0 1 (act.Mode true)
    ∷ line 504 0 1 (act.Zone r1 zone_a zone.Full 0)
    ∷ line 504 0 1 (act.Untainted n2 (done 10))
    ∷ [])

-- ---- all rules of Kubernetes 1.20: a failover

abbrev pub upstream_failover : Doc
upstream_failover = record (document (ruled upstream_rules (settings 301)) (c1 ∷ c2 ∷ [])
    (node n1 zone_a ready.False []
    ∷ node n2 zone_a ready.True []
    ∷ pod p1 n1 (tolerating not_ready 3 ∷ [])
    ∷ pod p2 n1 (tolerating not_ready 5 ∷ [])
    ∷ [])
    (at_beat 60 (crash 0) ∷ [])) { waits = (1600 ∷ []) ∷ (1600 ∷ []) ∷ [] }

-- Waits are 3.2 s. The first pass is 0.7 s after the lead, and the bucket is full. The second pod would have gone at 61; the new leader
-- strips its node, taints it again and counts from 25.1 s.
abbrev pub UpstreamFailover : Type 0
UpstreamFailover = HasTrace upstream_failover true (
    elected_of_two 5
    ++ line 7 0 1 (update 6 0)
    ∷ line 11 0 1 (act.Zone r1 zone_a zone.Normal 100)
    ∷ line 11 0 1 (act.Tainted n1 not_ready (done 7))
    ∷ line 31 0 1 (update 8 0)
    ∷ line 41 0 1 (act.Evicted (pod_at default p1) (tenth 41) (done 9))
    ∷ line 55 0 1 (update 10 0)
    ∷ line 60 0 1 act.Crash
    ∷ line 243 1 1 (update 11 1)
    ∷ line 244 1 1 (lead 11)
    ∷ line 247 1 1 (update 12 1)
    ∷ line 251 1 1 (act.Zone r1 zone_a zone.Normal 100)
    ∷ line 251 1 1 (act.Untainted n1 (done 13))
    ∷ line 251 1 1 (act.Tainted n1 not_ready (done 14))
    ∷ line 271 1 1 (update 15 1)
    ∷ line 295 1 1 (update 16 1)
    ∷ line 301 1 1 (act.Evicted (pod_at default p2) (tenth 301) (done 17))
    ∷ [])
