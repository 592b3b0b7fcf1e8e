-- A cluster of three nodes and two controllers, with one dead node and one failover, in beats of a second.
use Rattle.std.specs.Prelude.{◌≡◌, ℕ, ◌+◌, List, [], ◌∷◌, Some, None}
use Rattle.kube_objects.specs.declared.call.Answer.TheVariants as answer
use Rattle.kube_objects.specs.declared.deed.Act.TheVariants as act
use Rattle.kube_objects.specs.declared.key.Key.{Key}
use Rattle.kube_objects.specs.declared.lease.Holder.TheVariants as holder
use Rattle.kube_objects.specs.declared.node.ReadyStatus.TheVariants as ready
use Rattle.kube_objects.specs.declared.node.ZoneState.TheVariants as zone
use Rattle.kube_objects.specs.declared.object.Object.{Object}
use Rattle.kube_objects.specs.declared.object.Object.TheVariants as object
use Rattle.kube_objects.specs.declared.pod.Operator.TheVariants as operator
use Rattle.kube_objects.specs.declared.script.Proc.{Proc}
use Rattle.kube_objects.specs.Document.{Doc, own_waits_each}
use Rattle.kube_objects.specs.Stored.{election, node_key, node_lease}
use Rattle.kube_objects.specs.Tainting.{not_ready, unreachable}
use Rattle.history.specs.History.{whole_history}
use Rattle.history.specs.Printed.{printed}
use Rattle.history_examples.specs.Documents.{settings, c1, c2, at_beat, crash, line, create, update, lead}
use Rattle.history_examples.specs.Clusters.{n1, n2, n3, r1, zone_a, default, kubelet, second, tolerating, pod_at, done}

abbrev pub patient : Proc → Proc
patient proc = record proc { lease_seconds = 120; renew_millis = 60000; retry_millis = 20000 }

-- ready, with a heartbeat of two minutes before the epoch
abbrev pub ready_node : ℕ → Key × Object
ready_node name = (
  node_key name,
  object.Node (record {
    region = r1;
    zone = zone_a;
    taints = [];
    ready = Some (record {
      status = ready.True;
      reason = 1;
      heartbeat = Some (record { 0 = 1704067080000000 });
      transition = Some (record { 0 = 1698915640000000 });
    });
  }),
)

-- renewed five seconds before the epoch
abbrev pub renewed_before : ℕ → Key × Object
renewed_before name = (
  node_lease name,
  object.Lease (record {
    holder = holder.Foreign name;
    duration = Some 40;
    acquired = None;
    renewed = Some (record { 0 = 1704067195000000 });
    transitions = None;
  }),
)

-- the pod of a node that tolerates both condition taints for 300 s
abbrev pub web : ℕ → Key
web node = pod_at default (node + 30)

abbrev pub web_pod : ℕ → Key × Object
web_pod node = (web node, object.Pod (record { node = node; tolerations = tolerating not_ready 300 ∷ tolerating unreachable 300 ∷ [] }))

-- and the one that tolerates everything; 7 is the number of kube-system
abbrev pub proxy_pod : ℕ → Key × Object
proxy_pod node = (
  pod_at 7 (node + 40),
  object.Pod (record {
    node = node;
    tolerations = record { key = 0; operator = operator.Exists; value = 0; effect = None; seconds = None } ∷ [];
  }),
)

abbrev pub objects : List (Key × Object)
objects = ready_node n1 ∷ ready_node n2 ∷ ready_node n3
    ∷ renewed_before n1 ∷ renewed_before n2 ∷ renewed_before n3
    ∷ web_pod n1 ∷ proxy_pod n1 ∷ web_pod n2 ∷ proxy_pod n2 ∷ web_pod n3 ∷ proxy_pod n3 ∷ []

-- Live kubelets renew at beats 5, 15, 25 and so on. The last renewal of n3, at 15, is seen by the pass of 19, so the pass of 59 is
-- exactly at probe plus grace and that of 64 marks it; the zone's token is there. The other controller takes over at 224, and evicts the
-- pod when it is due by the taint.
abbrev pub dead_node_and_failover : Doc
dead_node_and_failover = record {
  settings = record (settings 364) {
    beat_millis = 1000;
    lease_duration_seconds = 120;
    renew_deadline_millis = 60000;
    retry_period_millis = 20000;
  };
  controllers = patient c1 ∷ patient c2 ∷ [];
  kubelets = kubelet n1 ∷ kubelet n2 ∷ kubelet n3 ∷ [];
  waits = own_waits_each (patient c1 ∷ patient c2 ∷ []);
  objects = objects;
  events = at_beat 22 (crash 4) ∷ at_beat 100 (crash 0) ∷ [];
}

abbrev pub DeadNodeAndFailover : Type 0
DeadNodeAndFailover = printed (whole_history dead_node_and_failover) ≡
    line 0 0 1 act.Start
    ∷ line 0 1 1 act.Start
    ∷ line 0 2 1 act.Start
    ∷ line 0 3 1 act.Start
    ∷ line 0 4 1 act.Start
    ∷ line 3 0 1 (create 13)
    ∷ line 3 1 1 (act.Create election answer.Exists 0)
    ∷ line 4 0 1 (lead 13)
    ∷ line 4 0 1 (act.Zone r1 zone_a zone.Normal 100)
    ∷ line 7 0 1 (update 17 0)
    ∷ line 22 4 1 act.Crash
    ∷ line 31 0 1 (update 23 0)
    ∷ line 55 0 1 (update 30 0)
    ∷ line 64 0 1 (act.Marked n3 3 (done 31))
    ∷ line 64 0 1 (act.Tainted n3 unreachable (done 32))
    ∷ line 79 0 1 (update 37 0)
    ∷ line 100 0 1 act.Crash
    ∷ line 181 2 1 (act.Posted n1 ready.True (done 58))
    ∷ line 181 3 1 (act.Posted n2 ready.True (done 59))
    ∷ line 225 1 1 (update 70 1)
    ∷ line 226 1 1 (lead 70)
    ∷ line 226 1 1 (act.Zone r1 zone_a zone.Normal 100)
    ∷ line 229 1 1 (update 71 1)
    ∷ line 253 1 1 (update 76 1)
    ∷ line 277 1 1 (update 83 1)
    ∷ line 301 1 1 (update 88 1)
    ∷ line 325 1 1 (update 95 1)
    ∷ line 349 1 1 (update 100 1)
    ∷ line 364 1 1 (act.Evicted (web n3) (second 364) (done 103))
    ∷ []
