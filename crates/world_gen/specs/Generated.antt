-- The generated document of a seed: three controllers, nodes with their kubelets, Pods that are spread over the nodes, and crashes.
-- What isn't named here is a document's default. Source: profile.
use Rattle.std.specs.Prelude.{ℕ, zero, suc, pos, ◌+◌, ◌/◌, ◌≤◌, ◌==◌, true, false, List, [], ◌∷◌, ◌++◌, map, Some}
use Rattle.std.specs.List.{range_with_len, filter}
use Rattle.rand_pcg.specs.Lcg.{Lcg}
use Rattle.kube_base.specs.declared.numbers.Wall.{Wall}
use Rattle.kube_objects.specs.declared.key.Key.{Key}
use Rattle.kube_objects.specs.declared.key.Kind.TheVariants as kinds
use Rattle.kube_objects.specs.declared.node.Effect.TheVariants as effects
use Rattle.kube_objects.specs.declared.node.Node.{Node}
use Rattle.kube_objects.specs.declared.node.ReadyStatus.TheVariants as statuses
use Rattle.kube_objects.specs.declared.object.Object.{Object}
use Rattle.kube_objects.specs.declared.object.Object.TheVariants as objects
use Rattle.kube_objects.specs.declared.pod.Operator.TheVariants as operators
use Rattle.kube_objects.specs.declared.pod.Pod.{Pod}
use Rattle.kube_objects.specs.declared.pod.Toleration.{Toleration}
use Rattle.kube_objects.specs.declared.script.Event.{Event}
use Rattle.kube_objects.specs.declared.script.Proc.{Proc}
use Rattle.kube_objects.specs.declared.script.What.TheVariants as whats
use Rattle.kube_objects.specs.declared.settings.RatePolicy.TheVariants as policies
use Rattle.kube_objects.specs.declared.settings.Settings.{Settings}
use Rattle.kube_objects.specs.Document.{Doc, own_waits_each}
use Rattle.kube_objects.specs.Rules.{own_rules}
use Rattle.world_gen.specs.declared.crash.Crash.{Crash}
use Rattle.world_gen.specs.declared.pod.Placing.{Placing}
use Rattle.world_gen.specs.Draws.{Drawn, start, crashes, placing}
use Rattle.world_gen.specs.Numbers.{controller_number, node_number, region_number, zone_number, space_number, pod_number}

-- 2024-01-01T00:00:00Z
abbrev pub epoch : Wall
epoch = record { 0 = 1_704_067_200_000_000 }

-- beats of a second, a lease of 20 s and calls of at most 3 s
abbrev pub settings : ℕ → Settings
settings beats = record {
  beat_millis = 1_000;
  end_beat = record { 0 = beats };
  epoch = epoch;
  lease_duration_seconds = 20;
  renew_deadline_millis = 10_000;
  retry_period_millis = 2_000;
  call_timeout_millis = 3_000;
  restart_millis = 1_000;
  monitor_period_millis = 5_000;
  grace_period_millis = 40_000;
  startup_grace_millis = 60_000;
  node_lease_duration_seconds = 40;
  primary_rate = 100;
  secondary_rate = 10;
  large_zone = 50;
  unhealthy_percent = 55;
  fast_renew = false;
  rate_policy = policies.Standard;
  rules = own_rules;
}

-- ---- processes

-- a process with the timings of the settings
abbrev pub process : ℕ → ℕ → Proc
process name rate = record {
  name = name;
  rate_ppm = rate;
  offset_millis = pos 0;
  up = true;
  watch = true;
  ready = statuses.True;
  lease_seconds = 20;
  renew_millis = 10_000;
  retry_millis = 2_000;
  timeout_millis = 3_000;
}

-- c0, c1 and c2: one clock is right, one fast and one slow
abbrev pub controllers : List Proc
controllers = process (controller_number 0) 1_000_000 ∷ process (controller_number 1) 1_010_000 ∷ process (controller_number 2) 990_000 ∷ []

abbrev pub kubelet : ℕ → Proc
kubelet i = process (node_number i) 1_000_000

abbrev pub kubelets : ℕ → List Proc
kubelets nodes = map kubelet (range_with_len 0 nodes)

-- ---- objects

-- a node that is ready since the epoch, with no taints
abbrev pub node : ℕ → ℕ → Node
node nodes i = record {
  region = region_number nodes;
  zone = zone_number nodes i;
  taints = [];
  ready = Some (record { status = statuses.True; reason = 1; heartbeat = Some epoch; transition = Some epoch });
}

abbrev pub node_item : ℕ → ℕ → Key × Object
node_item nodes i = (record { kind = kinds.Node; space = 0; name = node_number i }, objects.Node (node nodes i))

abbrev pub node_items : ℕ → List (Key × Object)
node_items nodes = map (node_item nodes) (range_with_len 0 nodes)

-- the taint of a key is tolerated for so many seconds
abbrev pub toleration : ℕ → ℕ → Toleration
toleration key seconds =
    record { key = key; operator = operators.Exists; value = 0; effect = Some effects.NoExecute; seconds = Some (pos seconds) }

-- a Pod tolerates the taints not-ready and unreachable for the same time
abbrev pub pod : Placing → Pod
pod at = record { node = node_number at.node; tolerations = toleration 5 at.seconds ∷ toleration 6 at.seconds ∷ [] }

-- Pod j where it is placed
abbrev pub pod_item : ℕ → ℕ → Placing → Key × Object
pod_item nodes j at = (record { kind = kinds.Pod; space = space_number nodes; name = pod_number nodes j }, objects.Pod (pod at))

-- the first Pods, each placed by the next draws
unfoldable pub pod_items : ℕ → ℕ → Lcg → Drawn (List (Key × Object))
pod_items nodes zero g = record { value = []; rest = g }
pod_items nodes (suc j) g =
    let before = pod_items nodes j g in
    let at = placing nodes before.rest in
    record { value = before.value ++ pod_item nodes j at.value ∷ []; rest = at.rest }

-- ---- events

-- the crashes before a beat, in the order of beats. At one beat they stand as in the list
unfoldable pub by_beat : ℕ → List Crash → List Crash
by_beat zero all = []
by_beat (suc beat) all = by_beat beat all ++ filter (λ crash. crash.beat == beat) all

abbrev pub event : Crash → Event
event crash = record { beat = record { 0 = crash.beat }; what = whats.Crash (record { 0 = crash.process }) }

-- c0 crashes in the middle
abbrev pub middle : ℕ → Crash
middle beats = record { beat = beats / 2; process = 0 }

-- up to the last beat, the kubelets' crashes, and at the same beat behind them c0's
abbrev pub events : ℕ → List Crash → List Event
events beats drawn = map event (by_beat (beats + 1) (drawn ++ middle beats ∷ []))

-- ---- the document

-- the ranges of its sizes
pub record AreInRange (nodes_asked pods_asked beats_asked : ℕ) : Type 0 where
  pub some : 1 ≤ nodes_asked
  pub nodes : nodes_asked ≤ 1000
  pub pods : pods_asked ≤ 30000
  pub beats : beats_asked ≤ 100000

unfoldable pub generated : ℕ → ℕ → ℕ → ℕ → Doc
generated seed nodes pods beats =
    let drawn = crashes beats nodes (start seed) in
    record {
      settings = settings beats;
      controllers = controllers;
      kubelets = kubelets nodes;
      waits = own_waits_each controllers;
      objects = node_items nodes ++ (pod_items nodes pods drawn.rest).value;
      events = events beats drawn.value;
    }
