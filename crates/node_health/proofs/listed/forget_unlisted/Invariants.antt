use Rattle.std.proofs.Common.{◌≡◌, ℕ, length}
use Rattle.key_map.specs.Values.{value_at}
use Rattle.kube_objects.specs.Stored.{node_key}
use Rattle.node_health.proofs.Nodes.{forgotten}
use Rattle.node_health.proofs.listed.forget_unlisted.Given as goal

abbrev pub invariant-loop-name : goal.invariant-loop-name
invariant-loop-name l =
    (node : ℕ) → forgotten l.rest l.listed node (value_at l.map (node_key node)) ≡ forgotten l.names l.listed node (value_at l.fn.map (node_key node))

abbrev pub decreases-loop-name : goal.decreases-loop-name
decreases-loop-name l = length l.rest
