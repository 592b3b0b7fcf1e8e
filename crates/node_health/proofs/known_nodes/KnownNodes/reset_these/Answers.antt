use Rattle.key_map.specs.Values.{value_at}
use Rattle.kube_objects.specs.Stored.{node_key}
use Rattle.node_health.proofs.Nodes.{these-named}
use Rattle.node_health.proofs.known_nodes.KnownNodes.reset_these.Goals as goal

pub invariant_of-self : goal.invariant_of-self
invariant_of-self c =
    let old = c.args.self.now in
    record {
      named = λ node absent. these-named c.args.listed.now c.args.now.0 node (value_at old.map (node_key node)) (value_at c.reset_listed.new.map (node_key node))
          (c.reset_listed.ensures node) (old.named node absent);
    }
