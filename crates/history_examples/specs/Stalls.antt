-- The store stands still; and writes that block a pass.
use Rattle.std.specs.Prelude.{true, false, List, [], ◌∷◌, ◌++◌}
use Rattle.kube_objects.specs.declared.deed.Act.TheVariants as act
use Rattle.kube_objects.specs.declared.key.Key.{Key}
use Rattle.kube_objects.specs.declared.node.ReadyStatus.TheVariants as ready
use Rattle.kube_objects.specs.declared.node.ZoneState.TheVariants as zone
use Rattle.kube_objects.specs.declared.object.Object.{Object}
use Rattle.kube_objects.specs.declared.rules.BucketRule.TheVariants as buckets
use Rattle.kube_objects.specs.declared.rules.JudgeRule.TheVariants as judges
use Rattle.kube_objects.specs.declared.rules.Rules.{Rules}
use Rattle.kube_objects.specs.declared.script.Event.{Event}
use Rattle.kube_objects.specs.declared.script.Proc.{Proc}
use Rattle.kube_objects.specs.declared.settings.Settings.{Settings}
use Rattle.kube_objects.specs.Document.{Doc, own_waits_each}
use Rattle.kube_objects.specs.Rules.{own_rules}
use Rattle.kube_objects.specs.Stored.{node_lease}
use Rattle.kube_objects.specs.Tainting.{not_ready, unreachable}
use Rattle.history_examples.specs.Documents.{settings, c1, pair, at_beat, crash, line, script_line, create, update, lead, elected, elected_of_two}
use Rattle.history_examples.specs.Clusters.{n1, n2, n3, r1, zone_a, default, p1, kubelet, second, condition, node, tolerating, pod_at, pod, done}
use Rattle.history_examples.specs.Traces.{ruled, daily, stall, HasTrace}

-- The leader's last success is that of 32, so it ends at 32 plus 2 s and 10 s. The second asked last before the renewal of 31 was written,
-- and what it asks next is held up and too late: it sees version 3 first at 171, the first one's next incarnation at 164, and their 15 s
-- begin there.
abbrev pub FailoverByAStall : Type 0
FailoverByAStall = HasTrace (pair 330 [] (at_beat 40 (stall 120) ∷ [])) true (
    elected_of_two 1
    ++ line 7 0 1 (update 2 0)
    ∷ line 31 0 1 (update 3 0)
    ∷ script_line 40 (act.Stall 120)
    ∷ line 152 0 1 act.End
    ∷ line 162 0 2 act.Start
    ∷ line 319 0 2 (update 4 1)
    ∷ line 320 0 2 (lead 4)
    ∷ line 323 0 2 (update 5 1)
    ∷ [])

-- ---- ticks

abbrev pub day : Settings → List Proc → List (Key × Object) → List Event → Doc
day set kubelets objects events = record {
  settings = record set { lease_duration_seconds = 86400; renew_deadline_millis = 86399000; retry_period_millis = 60000 };
  controllers = daily c1 ∷ [];
  kubelets = kubelets;
  waits = own_waits_each (daily c1 ∷ []);
  objects = objects;
  events = events;
}

-- What is due in a stall goes at its end.
abbrev pub DueInAStall : Type 0
DueInAStall = HasTrace (day (settings 90) []
    (node n1 zone_a ready.False (condition not_ready 0 ∷ [])
    ∷ node n2 zone_a ready.True []
    ∷ pod p1 n1 (tolerating not_ready 5 ∷ [])
    ∷ [])
    (at_beat 40 (stall 40) ∷ [])) false (
    elected 4
    ++ line 4 0 1 (act.Zone r1 zone_a zone.Normal 100)
    ∷ line 7 0 1 (update 5 0)
    ∷ script_line 40 (act.Stall 40)
    ∷ line 80 0 1 (act.Evicted (pod_at default p1) (second 5) (done 6))
    ∷ [])

-- Kubelets that are heard of no more while the store stands still are marked in the beat in which it goes on; all zones are Full, so
-- nobody is tainted.
abbrev pub StallOverTheGrace : Type 0
StallOverTheGrace = HasTrace (day (settings 660) (kubelet n1 ∷ kubelet n2 ∷ [])
    (node n1 zone_a ready.True [] ∷ node n2 zone_a ready.True [] ∷ [])
    (at_beat 200 (stall 420) ∷ [])) false (
    line 0 0 1 act.Start
    ∷ line 0 1 1 act.Start
    ∷ line 0 2 1 act.Start
    ∷ line 3 0 1 (create 3)
    ∷ line 4 0 1 (lead 3)
    ∷ line 4 0 1 (act.Zone r1 zone_a zone.Normal 100)
    ∷ line 5 1 1 (act.Create (node_lease n1) (done 4) 0)
    ∷ line 5 2 1 (act.Create (node_lease n2) (done 5) 0)
    ∷ line 7 0 1 (update 6 0)
    ∷ script_line 200 (act.Stall 420)
    ∷ line 620 0 1 (act.Marked n1 3 (done 9))
    ∷ line 620 0 1 (act.Marked n2 3 (done 10))
    ∷ line 620 0 1 (act.Mode true)
    ∷ line 620 0 1 (act.Zone r1 zone_a zone.Full 0)
    ∷ line 622 0 1 (update 11 0)
    ∷ [])

-- ---- writes that block a pass

abbrev pub working : Rules
working = record own_rules { ready_millis = 2000; ready_burst = 2; judge = judges.Pass; bucket = buckets.Full }

-- so many pods of the first node, from p1 on
abbrev pub six_pods : List (Key × Object)
six_pods =
    pod 50 n1 (tolerating unreachable 5 ∷ []) ∷ pod 51 n1 (tolerating unreachable 5 ∷ []) ∷ pod 52 n1 (tolerating unreachable 5 ∷ [])
    ∷ pod 53 n1 (tolerating unreachable 5 ∷ []) ∷ pod 54 n1 (tolerating unreachable 5 ∷ []) ∷ pod 55 n1 (tolerating unreachable 5 ∷ []) ∷ []

-- The pass at 504 marks a node with six pods, four over the first two, and works for 8 s, so the next one is that of 504 + 50 + 80.
abbrev pub PassAtWork : Type 0
PassAtWork = HasTrace (day (ruled working (settings 690)) (kubelet n1 ∷ kubelet n2 ∷ kubelet n3 ∷ [])
    (node n1 zone_a ready.True [] ∷ node n2 zone_a ready.True [] ∷ node n3 zone_a ready.True [] ∷ six_pods)
    (at_beat 40 (crash 1) ∷ [])) false (
    line 0 0 1 act.Start
    ∷ line 0 1 1 act.Start
    ∷ line 0 2 1 act.Start
    ∷ line 0 3 1 act.Start
    ∷ line 3 0 1 (create 10)
    ∷ line 4 0 1 (lead 10)
    ∷ line 4 0 1 (act.Zone r1 zone_a zone.Normal 100)
    ∷ line 5 1 1 (act.Create (node_lease n1) (done 11) 0)
    ∷ line 5 2 1 (act.Create (node_lease n2) (done 12) 0)
    ∷ line 5 3 1 (act.Create (node_lease n3) (done 13) 0)
    ∷ line 7 0 1 (update 14 0)
    ∷ line 40 1 1 act.Crash
    ∷ line 504 0 1 (act.Marked n1 3 (done 23))
    ∷ line 611 0 1 (update 28 0)
    ∷ line 634 0 1 (act.Tainted n1 unreachable (done 29))
    ∷ line 680 0 1 (act.Evicted (pod_at default 50) (second 68) (done 30))
    ∷ line 680 0 1 (act.Evicted (pod_at default 51) (second 68) (done 31))
    ∷ line 680 0 1 (act.Evicted (pod_at default 52) (second 68) (done 32))
    ∷ line 680 0 1 (act.Evicted (pod_at default 53) (second 68) (done 33))
    ∷ line 680 0 1 (act.Evicted (pod_at default 54) (second 68) (done 34))
    ∷ line 680 0 1 (act.Evicted (pod_at default 55) (second 68) (done 35))
    ∷ [])
