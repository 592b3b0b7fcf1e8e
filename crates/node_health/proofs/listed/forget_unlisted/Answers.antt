use Rattle.std.proofs.Common.{◌≡◌, [], ◌∷◌, rules, arith}
use Rattle.std.proofs.lemmas.Grind.{common_steps}
use Rattle.key_map.specs.Values.{value_at}
use Rattle.kube_objects.specs.Stored.{node_key}
use Rattle.node_health.proofs.Nodes.{all-forgotten, forgotten, next-forgotten}
use Rattle.node_health.proofs.listed.forget_unlisted.Goals as goal

pub loop-name-preserved : goal.loop-name-preserved
loop-name-preserved c node =
    let split : c.loop-name.rest.now ≡ c.in-Some.name.now ∷ c.in-Some.others.now = search rules in
    next-forgotten c.args.listed.now c.loop-name.rest.now c.in-Some.others.now c.in-Some.name.now node
    (forgotten c.args.names.now c.args.listed.now node (value_at c.args.map.now (node_key node))) (value_at c.loop-name.map (node_key node))
    (value_at c.forget.new.map (node_key node)) split (c.loop-name.invariant node) (c.forget.ensures node)

pub returns : goal.returns
returns c node =
    let empty : c.loop-name.rest.now ≡ [] = grind (arith, common_steps) in
    all-forgotten c.args.listed.now c.loop-name.rest.now node (forgotten c.args.names.now c.args.listed.now node (value_at c.args.map.now (node_key node)))
    (value_at c.loop-name.map (node_key node)) empty (c.loop-name.invariant node)
