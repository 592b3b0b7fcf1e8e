use Rattle.std.proofs.Common.{◌≡◌, map}
use Rattle.std.specs.List.{range_with_len}
use Rattle.world_gen.specs.Generated.{node_item}
use Rattle.world_gen.proofs.node.node_items.Given as goal

abbrev pub invariant-loop-i : goal.invariant-loop-i
invariant-loop-i l = l.items ≡ map (node_item l.nodes) (range_with_len 0 l.i)
