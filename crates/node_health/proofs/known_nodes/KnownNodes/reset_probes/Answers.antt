use Rattle.std.proofs.Common.{◌∙◌, ap}
use Rattle.key_map.specs.Values.{value_at}
use Rattle.kube_objects.specs.Stored.{node_key}
use Rattle.node_health.proofs.Nodes.{each-heard, heard, heard-named}
use Rattle.node_health.proofs.known_nodes.KnownNodes.reset_probes.Goals as goal

pub returns : goal.returns
returns c node =
    let old = c.args.self.now in
    each-heard old.names.items c.args.now.0 node (value_at old.map (node_key node)) (value_at c.reset_listed.new.map (node_key node))
    (c.reset_listed.ensures node ∙ ap (λ names. heard names c.args.now.0 node (value_at old.map (node_key node))) c.as_slice.ensures.value) (old.named node)

pub invariant_of-self : goal.invariant_of-self
invariant_of-self c =
    let old = c.args.self.now in
    record {
      named = λ node. heard-named old.names.items c.args.now.0 node (value_at old.map (node_key node)) (value_at c.reset_listed.new.map (node_key node))
          (c.reset_listed.ensures node ∙ ap (λ names. heard names c.args.now.0 node (value_at old.map (node_key node))) c.as_slice.ensures.value) (old.named node);
    }
