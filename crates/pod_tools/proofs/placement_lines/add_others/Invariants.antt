use Rattle.std.proofs.Common.{◌≡◌, ◌++◌, codes, take, flat_map}
use Rattle.pod_tools.specs.Texts.{node_text}
use Rattle.pod_tools.proofs.placement_lines.add_others.Given as goal

abbrev pub invariant-loop-place : goal.invariant-loop-place
invariant-loop-place l =
    l.text.items ≡ l.fn.text.items ++ flat_map (λ place. codes "," ++ node_text l.names l.nodes place) (take l.place-index l.places)
