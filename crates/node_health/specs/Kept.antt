-- What is kept of the nodes, and what a look makes of it. Source: the monitor of node health of the node lifecycle controller
-- of Kubernetes; profile.
use Rattle.std.specs.Prelude.{ℕ, ◌==◌, ◌&&◌, ◌||◌, not, Bool, false, cond, List, Option, Some, None}
use Rattle.std.specs.List.{list_any}
use Rattle.key_map.specs.Values.{value_at}
use Rattle.kube_base.specs.declared.fixed.TheConstants.{NODE_STATUS_UNKNOWN, NODE_STATUS_NEVER_UPDATED}
use Rattle.kube_base.specs.declared.numbers.Wall.{Wall}
use Rattle.kube_objects.specs.declared.node.Node.{Node}
use Rattle.kube_objects.specs.declared.node.Ready.{Ready}
use Rattle.kube_objects.specs.declared.rules.ProbeRule.{ProbeRule}
use Rattle.kube_objects.specs.Health.{is_later, is_news, is_unknown}
use Rattle.kube_objects.specs.Stored.{node_key}
use Rattle.node_health.specs.declared.grace.Grace.{Grace}
use Rattle.node_health.specs.declared.health.Health.{Health}
use Rattle.node_health.specs.declared.known.Known.{Known}
use Rattle.node_health.specs.declared.known_nodes.KnownNodes.{KnownNodes}
use Rattle.node_health.specs.declared.verdict.Verdict.{Verdict}
use Rattle.node_health.specs.declared.verdict.Verdict.TheVariants.{Keep, MarkUnknown}

-- what is kept of a node, where it is known
abbrev pub known_at : KnownNodes → ℕ → Option Known
known_at nodes node = value_at nodes.map (node_key node)

abbrev pub kept : Health → ℕ → Option Known
kept health node = known_at health.nodes node

-- from when it counts a node as silent
abbrev pub rule_of : Health → ProbeRule
rule_of health = health.rule

abbrev pub heartbeat_in : Option Known → Option Wall
heartbeat_in None = None
heartbeat_in (Some known) = known.heartbeat

abbrev pub renewal_in : Option Known → Option Wall
renewal_in None = None
renewal_in (Some known) = known.renewal

-- ---- a look

-- a time that is missing leaves the kept one
abbrev pub newer : Option Wall → Option Wall → Option Wall
newer None kept = kept
newer (Some at) kept = Some at

-- the reading of the last news, where these times are shown at a reading
abbrev pub probe_after : Option Known → Option Wall → Option Wall → ℕ → ℕ
probe_after None heartbeat renewed now = now
probe_after (Some known) heartbeat renewed now =
    cond (is_news heartbeat known.heartbeat || is_later renewed known.renewal) now known.probe.0

abbrev pub after_look : Option Known → Option Wall → Option Wall → ℕ → Known
after_look x heartbeat renewed now = record {
  heartbeat = newer heartbeat (heartbeat_in x);
  renewal = newer renewed (renewal_in x);
  probe = record { 0 = probe_after x heartbeat renewed now };
  has_ready = false;
  has_lease = false;
}

-- ---- the verdict

abbrev pub grace_for : Grace → Option Ready → ℕ
grace_for grace None = grace.startup
grace_for grace (Some ready) = grace.grace

abbrev pub reason_for : Option Ready → ℕ
reason_for None = NODE_STATUS_NEVER_UPDATED
reason_for (Some ready) = NODE_STATUS_UNKNOWN

abbrev pub judged : Option Ready → Bool → Verdict
judged ready silent = cond (not (is_unknown ready) && silent) (MarkUnknown (reason_for ready)) Keep

-- the verdict to write this Ready
abbrev pub writes_ready : Option Ready → Verdict
writes_ready None = Keep
writes_ready (Some ready) = MarkUnknown ready.reason

-- the verdict that is this mark, or none
abbrev pub verdict_of : Option Node → Verdict
verdict_of None = Keep
verdict_of (Some node) = writes_ready node.ready

-- ---- changes of all nodes

-- heard of at a reading
abbrev pub at_reading : ℕ → Known → Known
at_reading now known = record known { probe = record { 0 = now } }

-- whether a name stands in a list
abbrev pub is_listed : List ℕ → ℕ → Bool
is_listed names name = list_any (λ other. other == name) names
