-- Evictions counted from when they are seen, and within a limit.
use Rattle.std.specs.Prelude.{ℕ, ◌+◌, ◌*◌, true, [], ◌∷◌, ◌++◌}
use Rattle.kube_base.specs.declared.numbers.Wall.{Wall}
use Rattle.kube_objects.specs.declared.deed.Act.TheVariants as act
use Rattle.kube_objects.specs.declared.node.ReadyStatus.TheVariants as ready
use Rattle.kube_objects.specs.declared.node.ZoneState.TheVariants as zone
use Rattle.kube_objects.specs.declared.rules.EvictRule.TheVariants as evictions
use Rattle.kube_objects.specs.Rules.{own_rules}
use Rattle.kube_objects.specs.Stored.{node_key}
use Rattle.kube_objects.specs.Tainting.{not_ready, unreachable}
use Rattle.history_examples.specs.Documents.{settings, line, script_line, update, elected}
use Rattle.history_examples.specs.Clusters.{n1, n2, r1, zone_a, default, p1, p2, cluster, node, tolerating, pod_at, pod, puts, removes, version, done}
use Rattle.history_examples.specs.Judgements.{old_condition}
use Rattle.history_examples.specs.Traces.{ruled, tenth, HasTrace}

abbrev pub p3 : ℕ
p3 = 43

abbrev pub p4 : ℕ
p4 = 44

-- The second pod tolerates the first taint not at all, the third the second one. The first pod keeps its 10 s over the change. The fourth
-- has its own 15 s, also when its node is gone.
abbrev pub CountedFromSight : Type 0
CountedFromSight = HasTrace (cluster (ruled (record own_rules { evict_from = evictions.Seen }) (settings 260))
    (node n1 zone_a ready.False (old_condition not_ready ∷ [])
    ∷ node n2 zone_a ready.True []
    ∷ pod p1 n1 (tolerating not_ready 10 ∷ tolerating unreachable 20 ∷ [])
    ∷ pod p2 n1 (tolerating unreachable 5 ∷ [])
    ∷ pod p3 n1 (tolerating not_ready 20 ∷ [])
    ∷ [])
    (puts 50 (node n1 zone_a ready.Unknown (old_condition unreachable ∷ []))
    ∷ puts 80 (pod p4 n1 (tolerating unreachable 15 ∷ []))
    ∷ removes 150 (node_key n1)
    ∷ [])) true (
    elected 6
    ++ line 4 0 1 (act.Zone r1 zone_a zone.Normal 100)
    ∷ line 4 0 1 (act.Evicted (pod_at default p2) (tenth 4) (done 7))
    ∷ line 7 0 1 (update 8 0)
    ∷ script_line 50 (act.Put (node_key n1) (version 9))
    ∷ line 50 0 1 (act.Evicted (pod_at default p3) (tenth 50) (done 10))
    ∷ script_line 80 (act.Put (pod_at default p4) (version 11))
    ∷ line 104 0 1 (act.Evicted (pod_at default p1) (tenth 104) (done 12))
    ∷ script_line 150 (act.Removed (node_key n1) (version 13))
    ∷ line 230 0 1 (act.Evicted (pod_at default p4) (tenth 230) (done 14))
    ∷ [])

-- so many seconds after 2023-12-31T23:00:00Z
abbrev pub second_of_the_hour : ℕ → Wall
second_of_the_hour n = record { 0 = 1704063600000000 + n * 1000000 }

-- Two go at once and then one each second, by due and then in order.
abbrev pub WithinTheLimit : Type 0
WithinTheLimit = HasTrace (cluster (ruled (record own_rules { evict_burst = 2; evict_rate = 1000 }) (settings 30))
    (node n1 zone_a ready.False (old_condition not_ready ∷ [])
    ∷ node n2 zone_a ready.True []
    ∷ pod p1 n1 (tolerating not_ready 60 ∷ [])
    ∷ pod p2 n1 []
    ∷ pod p3 n1 (tolerating not_ready 30 ∷ [])
    ∷ pod p4 n1 []
    ∷ [])
    []) true (
    elected 7
    ++ line 4 0 1 (act.Zone r1 zone_a zone.Normal 100)
    ∷ line 4 0 1 (act.Evicted (pod_at default p2) (second_of_the_hour 0) (done 8))
    ∷ line 4 0 1 (act.Evicted (pod_at default p4) (second_of_the_hour 0) (done 9))
    ∷ line 7 0 1 (update 10 0)
    ∷ line 14 0 1 (act.Evicted (pod_at default p3) (second_of_the_hour 30) (done 11))
    ∷ line 24 0 1 (act.Evicted (pod_at default p1) (second_of_the_hour 60) (done 12))
    ∷ [])
