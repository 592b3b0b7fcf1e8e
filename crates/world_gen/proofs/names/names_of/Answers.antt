use Rattle.std.proofs.Common.{arith}
use Rattle.world_gen.proofs.Fresh.{nodes-new, region-few, region-is_new, zones-few, zones-new, pods-few, space-is_new, pods-new, all-named}
use Rattle.world_gen.proofs.names.names_of.Goals as goal

pub add_all-requires-clause-fresh : goal.add_all-requires-clause-fresh
add_all-requires-clause-fresh c i lt = nodes-new c.in_ok-names.names c.in_ok-names.ensures i (omega arith)

pub add_new-requires-clause-few : goal.add_new-requires-clause-few
add_new-requires-clause-few c =
    region-few c.args.nodes c.in_ok-names.names c.add_all.new.names c.in_ok-names.ensures c.in_ok-add_all.ensures c.requires.nodes

pub add_new-requires-clause-fresh : goal.add_new-requires-clause-fresh
add_new-requires-clause-fresh c =
    region-is_new c.args.nodes c.in_ok-names.names c.add_all.new.names c.in_ok-names.ensures c.in_ok-add_all.ensures

pub add_all-requires-2-clause-few : goal.add_all-requires-2-clause-few
add_all-requires-2-clause-few c =
    zones-few c.args.nodes c.in_ok-names.names c.add_all.new.names c.in_ok-names.ensures c.in_ok-add_all.ensures c.add_new.new.names
    c.in_ok-add_new.ensures c.zones.result
    c.zones.ensures.few c.requires.nodes

pub add_all-requires-2-clause-fresh : goal.add_all-requires-2-clause-fresh
add_all-requires-2-clause-fresh c i lt =
    zones-new c.args.nodes c.in_ok-names.names c.add_all.new.names c.in_ok-names.ensures c.in_ok-add_all.ensures c.add_new.new.names
    c.in_ok-add_new.ensures i

pub add_pods-requires-clause-few : goal.add_pods-requires-clause-few
add_pods-requires-clause-few c =
    pods-few c.args.nodes c.in_ok-names.names c.add_all.new.names c.in_ok-names.ensures c.in_ok-add_all.ensures c.add_new.new.names
    c.in_ok-add_new.ensures c.zones.result
    c.add_all-2.new.names c.zones.ensures.value c.in_ok-add_all-2.ensures c.args.pods c.requires.pods c.requires.nodes

pub add_pods-requires-clause-space : goal.add_pods-requires-clause-space
add_pods-requires-clause-space c =
    space-is_new c.args.nodes c.in_ok-names.names c.add_all.new.names c.in_ok-names.ensures c.in_ok-add_all.ensures c.add_new.new.names
    c.in_ok-add_new.ensures c.zones.result
    c.add_all-2.new.names c.zones.ensures.value c.in_ok-add_all-2.ensures

pub add_pods-requires-clause-fresh : goal.add_pods-requires-clause-fresh
add_pods-requires-clause-fresh c =
    pods-new c.args.nodes c.in_ok-names.names c.add_all.new.names c.in_ok-names.ensures c.in_ok-add_all.ensures c.add_new.new.names
    c.in_ok-add_new.ensures c.zones.result
    c.add_all-2.new.names c.zones.ensures.value c.in_ok-add_all-2.ensures

pub returns : goal.returns
returns c =
    all-named c.args.nodes c.in_ok-names.names c.add_all.new.names c.in_ok-names.ensures c.in_ok-add_all.ensures c.add_new.new.names
    c.in_ok-add_new.ensures c.zones.result
    c.add_all-2.new.names c.zones.ensures.value c.in_ok-add_all-2.ensures c.args.pods c.add_pods.new.names c.in_ok-add_pods.ensures
