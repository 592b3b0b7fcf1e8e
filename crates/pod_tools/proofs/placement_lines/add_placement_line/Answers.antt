use Rattle.std.proofs.Common.{◌++◌, codes, decimal}
use Rattle.pod_tools.specs.Texts.{pod_text, joined, placement_line}
use Rattle.pod_tools.proofs.Pieces.{more}
use Rattle.pod_tools.proofs.placement_lines.add_placement_line.Goals as goal

pub returns : goal.returns
unfolding placement_line
returns c =
    let old = c.args.text.now.items in
    let two = c.add_pod.new.text.items in
    let three = c.add-2.new.text.items in
    let four = c.add_small.new.text.items in
    let five = c.add-3.new.text.items in
    let six = c.add_joined.new.text.items in
    let nodes = joined c.args.names.now c.args.nodes.now c.args.placement.now.nodes in
    let to_pod = codes "place " ++ pod_text c.args.names.now c.args.pods.now c.args.placement.now.pod in
    let to_label = to_pod ++ codes " tolerations=" in
    let to_number = to_label ++ decimal c.args.placement.now.tolerations in
    let to_nodes = to_number ++ codes " nodes=" in
    more old (to_nodes ++ nodes) (codes "\n") six c.add-4.new.text.items
    (more old to_nodes nodes five six
    (more old to_number (codes " nodes=") four five
    (more old to_label (decimal c.args.placement.now.tolerations) three four
    (more old to_pod (codes " tolerations=") two three
    (more old (codes "place ") (pod_text c.args.names.now c.args.pods.now c.args.placement.now.pod) c.add.new.text.items two c.in_ok-add.ensures c.in_ok-add_pod.ensures)
    c.in_ok-add-2.ensures)
    c.in_ok-add_small.ensures)
    c.in_ok-add-3.ensures)
    (rw c.as_slice.ensures at c.in_ok-add_joined.ensures))
    c.in_ok-add-4.ensures
