use Rattle.std.proofs.Common.{◌≡◌, ◌++◌, take, flat_map}
use Rattle.pod_tools.specs.Texts.{placement_line}
use Rattle.pod_tools.proofs.placement_lines.add_placements.Given as goal

abbrev pub invariant-loop-placement : goal.invariant-loop-placement
invariant-loop-placement l =
    l.text.items ≡ l.fn.text.items ++ flat_map (placement_line l.names l.nodes l.pods) (take l.placement-index l.placements)
