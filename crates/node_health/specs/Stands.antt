-- The health of nodes stands for a term in a history: one clause for each part of what is kept of a node.
use Rattle.std.specs.Prelude.{◌≡◌, ◌==◌, ◌||◌, ℕ, Bool, true, false, cond, List, Option, Some, None, IfSome, option_map}
use Rattle.kube_base.specs.declared.numbers.Version.{Version}
use Rattle.kube_base.specs.declared.numbers.Wall.{Wall}
use Rattle.kube_objects.specs.declared.lease.Lease.{Lease}
use Rattle.kube_objects.specs.declared.node.Node.{Node}
use Rattle.kube_objects.specs.declared.node.Ready.{Ready}
use Rattle.kube_objects.specs.declared.rules.ProbeRule.{ProbeRule}
use Rattle.kube_objects.specs.declared.rules.ProbeRule.TheVariants as probes
use Rattle.kube_objects.specs.Clocks.{local}
use Rattle.kube_objects.specs.Document.{Doc, of_millis}
use Rattle.kube_objects.specs.Entry.{Entry, Identity, Fact, Ticks, Pass, Mark, Mode}
use Rattle.kube_objects.specs.Health.{is_known, kept_heartbeat, kept_lease, kept_renewal, last_pass, lease_of, left_ready, probe, ready_heartbeat, recorded}
use Rattle.kube_objects.specs.Newest.{has}
use Rattle.kube_objects.specs.Seen.{seen_lease, seen_node}
use Rattle.kube_objects.specs.Tick.{add}
use Rattle.node_health.specs.declared.grace.Grace.{Grace}
use Rattle.node_health.specs.declared.health.Health.{Health}
use Rattle.node_health.specs.declared.known.Known.{Known}
use Rattle.node_health.specs.Kept.{heartbeat_in, kept, renewal_in}
use Rattle.node_health.specs.Recorded.{kept_in, left_in}

-- what is kept of one node by the run; the name is the number of the node's name
pub record NodeStands (doc : Doc) (q : Identity) (h : List Entry) (name : ℕ) (x : Option Known) : Type 0 where
  pub known : has x ≡ is_known q name h
  pub heartbeat : heartbeat_in x ≡ kept_heartbeat q name h
  pub renewal : renewal_in x ≡ kept_renewal q name h
  pub probe : IfSome x (λ known. known.probe.0 ≡ local doc q.process (probe q name h))

abbrev pub left_heartbeat : Option Ready → Option (Option Wall)
left_heartbeat None = None
left_heartbeat (Some r) = Some r.heartbeat

-- and by the record: of a node that no pass found, nothing
pub record RecordStands (doc : Doc) (q : Identity) (h : List Entry) (name : ℕ) (x : Option Known) : Type 0 where
  pub left : option_map left_in x ≡ option_map left_heartbeat (left_ready q name h)
  pub lease : kept_in x ≡ option_map (λ (l : Lease). l.renewed) (kept_lease q name h)
  pub probe : IfSome x (λ known. known.probe.0 ≡ local doc q.process (recorded q name h))

abbrev pub NodeStandsBy : ProbeRule → Doc → Identity → List Entry → ℕ → Option Known → Type 0
NodeStandsBy probes.Run doc q h name x = NodeStands doc q h name x
NodeStandsBy probes.Record doc q h name x = RecordStands doc q h name x

-- the rule is the document's, and each node stands by it
pub record HealthStands (doc : Doc) (q : Identity) (h : List Entry) (health : Health) : Type 0 where
  pub rule : health.rule ≡ doc.settings.rules.probe
  pub nodes : (name : ℕ) → NodeStandsBy health.rule doc q h name (kept health name)

-- nothing is kept for a term that looked at no node yet
pub record AreUnlooked (q : Identity) (h : List Entry) : Type 0 where
  pub passes : last_pass q h ≡ None
  pub left : (name : ℕ) → left_ready q name h ≡ None
  pub lease : (name : ℕ) → kept_lease q name h ≡ None

-- ---- within a pass

-- the nodes that a pass has looked at stand for the history so far, with the pass and the marks, and the others for the history before it
pub record PassStands (doc : Doc) (q : Identity) (h now : List Entry) (looked : ℕ → Bool) (health : Health) : Type 0 where
  pub rule : health.rule ≡ doc.settings.rules.probe
  pub nodes : (name : ℕ) → NodeStandsBy health.rule doc q (cond (looked name) now h) name (kept health name)

-- one more node
abbrev pub and_looked : ℕ → (ℕ → Bool) → ℕ → Bool
and_looked node looked name = (node == name) || looked name

-- two histories that say the same of a node
pub record AreAlike (q : Identity) (name : ℕ) (h g : List Entry) : Type 0 where
  pub known : is_known q name g ≡ is_known q name h
  pub heartbeat : kept_heartbeat q name g ≡ kept_heartbeat q name h
  pub renewal : kept_renewal q name g ≡ kept_renewal q name h
  pub probe : probe q name g ≡ probe q name h
  pub left : left_ready q name g ≡ left_ready q name h
  pub lease : kept_lease q name g ≡ kept_lease q name h
  pub recorded : recorded q name g ≡ recorded q name h

-- the graces are the document's
pub record IsGraceOf (doc : Doc) (graces : Grace) : Type 0 where
  pub grace : graces.grace ≡ of_millis doc.settings.grace_period_millis
  pub startup : graces.startup ≡ of_millis doc.settings.startup_grace_millis

-- what a pass over this history shows of a node, and when; so far it marked other nodes alone
pub record IsLook (doc : Doc) (k : ℕ) (q : Identity) (h now : List Entry) (name : ℕ) (node : Node) (found : Option Lease) (at : ℕ)
    (grace : Grace) : Type 0 where
  pub version : Version
  pub shown : seen_node q name h ≡ Some (version, node)
  pub lease : lease_of (seen_lease q name h) ≡ found
  pub reading : at ≡ local doc q.process k
  pub graces : IsGraceOf doc grace
  pub alike : AreAlike q name (add k q Pass h) now

-- an accepted mark of a node that the pass looked at, as the record notes it: with the heartbeat that is kept, and the Lease that is seen
pub record IsNoted (q : Identity) (g : List Entry) (name : ℕ) (written : Node) (found : Option Lease) (x : Option Known) : Type 0 where
  pub there : has x ≡ true
  pub ready : has written.ready ≡ true
  pub heartbeat : heartbeat_in x ≡ ready_heartbeat written.ready
  pub lease : lease_of (seen_lease q name g) ≡ found

-- ---- entries that are looked at, where they are the term's own

abbrev pub is_of_health : Fact → Bool
is_of_health (Ticks Pass) = true
is_of_health (Ticks (Mode false)) = true
is_of_health (Ticks (Mark node given written tried)) = true
is_of_health _ = false
