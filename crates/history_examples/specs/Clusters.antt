-- What the documents of the worked examples are made of. Beats are of 100 ms unless a document says otherwise, from
-- 2024-01-01T00:00:00Z on; a controller that leads from beat 4 has its passes at beats 4, 54, 104 and so on.
use Rattle.std.specs.Prelude.{ℕ, ◌+◌, ◌*◌, pos, Bool, List, [], ◌∷◌, ◌++◌, Option, Some, None}
use Rattle.kube_base.specs.declared.numbers.Version.{Version}
use Rattle.kube_base.specs.declared.numbers.Wall.{Wall}
use Rattle.kube_objects.specs.declared.call.Answer.{Answer}
use Rattle.kube_objects.specs.declared.call.Answer.TheVariants as answer
use Rattle.kube_objects.specs.declared.deed.Act.TheVariants as act
use Rattle.kube_objects.specs.declared.deed.Deed.{Deed}
use Rattle.kube_objects.specs.declared.key.Key.{Key}
use Rattle.kube_objects.specs.declared.key.Kind.TheVariants as kind
use Rattle.kube_objects.specs.declared.lease.Holder.TheVariants as holder
use Rattle.kube_objects.specs.declared.node.Effect.TheVariants as effect
use Rattle.kube_objects.specs.declared.node.ReadyStatus.{ReadyStatus}
use Rattle.kube_objects.specs.declared.node.Taint.{Taint}
use Rattle.kube_objects.specs.declared.node.ZoneState.TheVariants as zone
use Rattle.kube_objects.specs.declared.object.Object.{Object}
use Rattle.kube_objects.specs.declared.object.Object.TheVariants as object
use Rattle.kube_objects.specs.declared.pod.Operator.TheVariants as operator
use Rattle.kube_objects.specs.declared.pod.Toleration.{Toleration}
use Rattle.kube_objects.specs.declared.script.Event.{Event}
use Rattle.kube_objects.specs.declared.script.Proc.{Proc}
use Rattle.kube_objects.specs.declared.script.What.{What}
use Rattle.kube_objects.specs.declared.script.What.TheVariants as what
use Rattle.kube_objects.specs.declared.settings.Settings.{Settings}
use Rattle.kube_objects.specs.Document.{Doc}
use Rattle.kube_objects.specs.Stored.{node_key, node_lease}
use Rattle.history_examples.specs.Documents.{controller, c1, document, at_beat, line, update, elected}

-- ---- names: numbers in the order in which the examples have them

abbrev pub n1 : ℕ
n1 = 20

abbrev pub n2 : ℕ
n2 = 21

abbrev pub n3 : ℕ
n3 = 22

abbrev pub n4 : ℕ
n4 = 23

abbrev pub m1 : ℕ
m1 = 24

abbrev pub m2 : ℕ
m2 = 25

-- a region, and its zones
abbrev pub r1 : ℕ
r1 = 30

abbrev pub zone_a : ℕ
zone_a = 31

abbrev pub zone_b : ℕ
zone_b = 32

-- the namespace of pods, and pods
abbrev pub default : ℕ
default = 40

abbrev pub p1 : ℕ
p1 = 41

abbrev pub p2 : ℕ
p2 = 42

-- ---- settings and processes

-- with such a lease one controller leads for longer than any example lasts, and renews once, at beat 7
abbrev pub long_lease : Settings → Settings
long_lease set = record set { lease_duration_seconds = 2000; renew_deadline_millis = 900000; retry_period_millis = 600000 }

abbrev pub steady : Proc → Proc
steady proc = record proc { lease_seconds = 2000; renew_millis = 900000; retry_millis = 600000 }

abbrev pub kubelet : ℕ → Proc
kubelet node = controller node

-- one controller with a long lease
abbrev pub cluster : Settings → List (Key × Object) → List Event → Doc
cluster set objects events = document (long_lease set) (steady c1 ∷ []) objects events

-- ---- times

abbrev pub second : ℕ → Wall
second n = record { 0 = 1704067200000000 + n * 1000000 }

abbrev pub at_second : ℕ → Option Wall
at_second n = Some (second n)

-- ---- objects

abbrev pub condition_at : ℕ → Wall → Taint
condition_at key at = record { key = key; value = 0; effect = effect.NoExecute; added = Some at }

-- a condition taint that was added at a second
abbrev pub condition : ℕ → ℕ → Taint
condition key n = condition_at key (second n)

-- a node of a zone with its Ready condition, whose heartbeat is of a second
abbrev pub beating : ℕ → ℕ → ReadyStatus → List Taint → ℕ → Key × Object
beating name zone status taints n = (
  node_key name,
  object.Node (record {
    region = r1;
    zone = zone;
    taints = taints;
    ready = Some (record { status = status; reason = 0; heartbeat = at_second n; transition = None });
  }),
)

abbrev pub node : ℕ → ℕ → ReadyStatus → List Taint → Key × Object
node name zone status taints = beating name zone status taints 0

abbrev pub without_heartbeat : ℕ → ℕ → ReadyStatus → Key × Object
without_heartbeat name zone status = (
  node_key name,
  object.Node (record {
    region = r1;
    zone = zone;
    taints = [];
    ready = Some (record { status = status; reason = 0; heartbeat = None; transition = None });
  }),
)

-- a node without Ready condition
abbrev pub unready_node : ℕ → ℕ → List Taint → Key × Object
unready_node name zone taints = (node_key name, object.Node (record { region = r1; zone = zone; taints = taints; ready = None }))

-- and one without labels and taints too
abbrev pub bare_node : ℕ → Key × Object
bare_node name = (node_key name, object.Node (record { region = 0; zone = 0; taints = []; ready = None }))

-- the Lease of a node, with this renew time
abbrev pub renewed : ℕ → Option Wall → Key × Object
renewed name at = (
  node_lease name,
  object.Lease (record {
    holder = holder.Foreign name;
    duration = None;
    acquired = None;
    renewed = at;
    transitions = None;
  }),
)

-- a condition taint is tolerated for some seconds
abbrev pub tolerating : ℕ → ℕ → Toleration
tolerating key seconds = record {
  key = key;
  operator = operator.Exists;
  value = 0;
  effect = Some effect.NoExecute;
  seconds = Some (pos seconds);
}

abbrev pub pod_at : ℕ → ℕ → Key
pod_at space name = record { kind = kind.Pod; space = space; name = name }

abbrev pub pod : ℕ → ℕ → List Toleration → Key × Object
pod name on tolerations = (pod_at default name, object.Pod (record { node = on; tolerations = tolerations }))

-- ---- events

abbrev pub puts : ℕ → Key × Object → Event
puts k x = at_beat k (what.Put x.0 x.1)

abbrev pub removes : ℕ → Key → Event
removes k key = at_beat k (what.Remove key)

abbrev pub watch : ℕ → Bool → What
watch p on = what.Watch (record { 0 = p }) on

-- ---- answers

abbrev pub version : ℕ → Version
version n = record { 0 = n }

abbrev pub done : ℕ → Answer
done n = answer.Done (version n)

abbrev pub conflict : ℕ → Answer
conflict n = answer.Conflict (version n)

-- ---- lines

-- one zone, which is normal at the first pass
abbrev pub in_normal_zone : ℕ → List Deed
in_normal_zone version =
    elected version
    ++ line 4 0 1 (act.Zone r1 zone_a zone.Normal 100)
    ∷ line 7 0 1 (update (version + 1) 0)
    ∷ []
