use Rattle.std.proofs.Common.{◌++◌, codes, decimal, length, ap, ◌∙◌}
use Rattle.pod_tools.specs.Texts.{count_feasible, placements_line}
use Rattle.pod_tools.proofs.Pieces.{more}
use Rattle.pod_tools.proofs.placement_lines.add_placements_count.Goals as goal

pub returns : goal.returns
unfolding placements_line
returns c =
    let old = c.args.text.now.items in
    let two = c.add_number.new.text.items in
    let three = c.add-2.new.text.items in
    let four = c.add_number-2.new.text.items in
    let feasible = decimal (count_feasible c.args.placements.now) in
    let to_pods = codes "placed pods=" ++ decimal (length c.args.placements.now) in
    let to_label = to_pods ++ codes " feasible=" in
    more old (to_label ++ feasible) (codes "\n") four c.add-3.new.text.items
    (more old to_label feasible three four
    (more old to_pods (codes " feasible=") two three
    (more old (codes "placed pods=") (decimal (length c.args.placements.now)) c.add.new.text.items two c.in_ok-add.ensures c.in_ok-add_number.ensures)
    c.in_ok-add-2.ensures)
    (c.in_ok-add_number-2.ensures ∙ ap (λ n. three ++ decimal n) c.count_feasible.ensures))
    c.in_ok-add-3.ensures
