-- Queued taints, and swaps.
use Rattle.std.specs.Prelude.{◌≡◌, true, false, [], ◌∷◌, ◌++◌}
use Rattle.kube_objects.specs.declared.deed.Act.TheVariants as act
use Rattle.kube_objects.specs.declared.node.ReadyStatus.TheVariants as ready
use Rattle.kube_objects.specs.declared.node.ZoneState.TheVariants as zone
use Rattle.kube_objects.specs.Document.{Doc, own_waits_each}
use Rattle.kube_objects.specs.Stored.{node_key}
use Rattle.kube_objects.specs.Tainting.{not_ready, unreachable}
use Rattle.history.specs.History.{whole_history}
use Rattle.history.specs.Printed.{printed}
use Rattle.history_examples.specs.Documents.{settings, c1, c2, at_beat, loss, crash, line, script_line, update, lead, elected}
use Rattle.history_examples.specs.Documents.{elected_of_two}
use Rattle.history_examples.specs.Clusters.{n1, n2, n3, n4, m1, m2, r1, zone_a, zone_b, default, in_normal_zone, p1, cluster}
use Rattle.history_examples.specs.Clusters.{second, condition_at, beating, node, tolerating, pod_at, pod, puts, version, done}

-- The second taint comes a whole interval after the first pass of the new term.
abbrev pub taint_after_failover : Doc
taint_after_failover = record {
  settings = settings 370;
  controllers = c1 ∷ c2 ∷ [];
  kubelets = [];
  waits = own_waits_each (c1 ∷ c2 ∷ []);
  objects = node n1 zone_a ready.False []
      ∷ node n2 zone_a ready.False []
      ∷ node n3 zone_a ready.True []
      ∷ [];
  events = at_beat 110 (crash 0)
      ∷ [];
}

abbrev pub TaintAfterFailover : Type 0
TaintAfterFailover = printed (whole_history taint_after_failover) ≡
    elected_of_two 4
    ++ line 4 0 1 (act.Zone r1 zone_a zone.Normal 100)
    ∷ line 7 0 1 (update 5 0)
    ∷ line 31 0 1 (update 6 0)
    ∷ line 55 0 1 (update 7 0)
    ∷ line 79 0 1 (update 8 0)
    ∷ line 103 0 1 (update 9 0)
    ∷ line 104 0 1 (act.Tainted n1 not_ready (done 10))
    ∷ line 110 0 1 act.Crash
    ∷ line 269 1 1 (update 11 1)
    ∷ line 270 1 1 (lead 11)
    ∷ line 270 1 1 (act.Zone r1 zone_a zone.Normal 100)
    ∷ line 273 1 1 (update 12 1)
    ∷ line 297 1 1 (update 13 1)
    ∷ line 321 1 1 (update 14 1)
    ∷ line 345 1 1 (update 15 1)
    ∷ line 369 1 1 (update 16 1)
    ∷ line 370 1 1 (act.Tainted n2 not_ready (done 17))
    ∷ []

-- A swap needs no token, and the pod is due by the new taint.
abbrev pub swap_needs_no_token : Doc
swap_needs_no_token = cluster (settings 200)
    (node n1 zone_a ready.False (condition_at unreachable (record { 0 = 1704067140000000 }) ∷ [])
    ∷ node n2 zone_a ready.True []
    ∷ pod p1 n1 (tolerating unreachable 300 ∷ tolerating not_ready 20 ∷ [])
    ∷ [])
    []

abbrev pub SwapNeedsNoToken : Type 0
SwapNeedsNoToken = printed (whole_history swap_needs_no_token) ≡
    elected 4
    ++ line 4 0 1 (act.Zone r1 zone_a zone.Normal 100)
    ∷ line 4 0 1 (act.Swapped n1 not_ready (done 5))
    ∷ line 7 0 1 (update 6 0)
    ∷ line 200 0 1 (act.Evicted (pod_at default p1) (second 20) (done 7))
    ∷ []

-- Each zone has its own interval.
abbrev pub zones_apart : Doc
zones_apart = cluster (settings 204)
    (node n1 zone_a ready.False []
    ∷ node n2 zone_a ready.False []
    ∷ node n3 zone_a ready.True []
    ∷ node m1 zone_b ready.False []
    ∷ node m2 zone_b ready.True []
    ∷ [])
    []

abbrev pub ZonesApart : Type 0
ZonesApart = printed (whole_history zones_apart) ≡
    elected 6
    ++ line 4 0 1 (act.Zone r1 zone_a zone.Normal 100)
    ∷ line 4 0 1 (act.Zone r1 zone_b zone.Normal 100)
    ∷ line 7 0 1 (update 7 0)
    ∷ line 104 0 1 (act.Tainted n1 not_ready (done 8))
    ∷ line 104 0 1 (act.Tainted m1 not_ready (done 9))
    ∷ line 204 0 1 (act.Tainted n2 not_ready (done 10))
    ∷ []

-- n1 waits since beat 4, and n2 since beat 60. The tick of beat 104 sees n1 ready, with its old heartbeat, and marks it: after the marks
-- it still waits, and is the first.
abbrev pub ready_and_marked_at_once : Doc
ready_and_marked_at_once = cluster (record (settings 120) { grace_period_millis = 5000 })
    (node n1 zone_a ready.False []
    ∷ node n2 zone_a ready.True []
    ∷ node n3 zone_a ready.True []
    ∷ [])
    (puts 60 (beating n2 zone_a ready.False [] 6)
    ∷ puts 60 (beating n3 zone_a ready.True [] 6)
    ∷ puts 104 (node n1 zone_a ready.True [])
    ∷ [])

abbrev pub ReadyAndMarkedAtOnce : Type 0
ReadyAndMarkedAtOnce = printed (whole_history ready_and_marked_at_once) ≡
    in_normal_zone 4
    ++ script_line 60 (act.Put (node_key n2) (version 6))
    ∷ script_line 60 (act.Put (node_key n3) (version 7))
    ∷ script_line 104 (act.Put (node_key n1) (version 8))
    ∷ line 104 0 1 (act.Marked n1 3 (done 9))
    ∷ line 104 0 1 (act.Tainted n1 unreachable (done 10))
    ∷ []

-- n1 waits in zone a since beat 4 and goes to zone b at beat 80, where n2 waits since beat 60.
abbrev pub waiting_in_another_zone : Doc
waiting_in_another_zone = cluster (settings 210)
    (node n1 zone_a ready.False []
    ∷ node n2 zone_b ready.True []
    ∷ node n3 zone_b ready.True []
    ∷ node n4 zone_a ready.True []
    ∷ [])
    (puts 60 (node n2 zone_b ready.False [])
    ∷ puts 80 (node n1 zone_b ready.False [])
    ∷ [])

abbrev pub WaitingInAnotherZone : Type 0
WaitingInAnotherZone = printed (whole_history waiting_in_another_zone) ≡
    elected 5
    ++ line 4 0 1 (act.Zone r1 zone_a zone.Normal 100)
    ∷ line 4 0 1 (act.Zone r1 zone_b zone.Normal 100)
    ∷ line 7 0 1 (update 6 0)
    ∷ script_line 60 (act.Put (node_key n2) (version 7))
    ∷ script_line 80 (act.Put (node_key n1) (version 8))
    ∷ line 104 0 1 (act.Tainted n2 not_ready (done 9))
    ∷ line 204 0 1 (act.Tainted n1 not_ready (done 10))
    ∷ []

-- The taint of n1 at beat 104 is lost: it has taken the token, and n1 is behind n2.
abbrev pub lost_taint_goes_back : Doc
lost_taint_goes_back = cluster (settings 210)
    (node n1 zone_a ready.False []
    ∷ node n2 zone_a ready.False []
    ∷ node n3 zone_a ready.True []
    ∷ [])
    (at_beat 100 (loss 0 true false)
    ∷ at_beat 110 (loss 0 false false)
    ∷ [])

abbrev pub LostTaintGoesBack : Type 0
LostTaintGoesBack = printed (whole_history lost_taint_goes_back) ≡
    in_normal_zone 4
    ++ line 204 0 1 (act.Tainted n2 not_ready (done 6))
    ∷ []
