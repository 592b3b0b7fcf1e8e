use Rattle.std.proofs.Common.{◌≡◌, [], ◌∷◌, rules, arith}
use Rattle.std.proofs.lemmas.Grind.{common_steps}
use Rattle.key_map.specs.Values.{value_at}
use Rattle.kube_objects.specs.Stored.{node_key}
use Rattle.node_health.proofs.Nodes.{all-heard, heard, next-heard}
use Rattle.node_health.proofs.listed.reset_listed.Goals as goal

pub loop-name-preserved : goal.loop-name-preserved
loop-name-preserved c node =
    let split : c.loop-name.rest.now ≡ c.in-Some.name.now ∷ c.in-Some.others.now = search rules in
    next-heard c.loop-name.rest.now c.in-Some.others.now c.in-Some.name.now c.args.now.0 node
    (heard c.args.names.now c.args.now.0 node (value_at c.args.map.now (node_key node))) (value_at c.loop-name.map (node_key node))
    (value_at c.reset.new.map (node_key node)) split (c.loop-name.invariant node) (c.reset.ensures node)

pub returns : goal.returns
returns c node =
    let empty : c.loop-name.rest.now ≡ [] = grind (arith, common_steps) in
    all-heard c.loop-name.rest.now c.args.now.0 node (heard c.args.names.now c.args.now.0 node (value_at c.args.map.now (node_key node)))
    (value_at c.loop-name.map (node_key node)) empty (c.loop-name.invariant node)
