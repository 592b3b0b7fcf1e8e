use Rattle.std.proofs.Common.{◌++◌, codes, decimal}
use Rattle.pod_tools.specs.Texts.{picks_line}
use Rattle.pod_tools.proofs.Pieces.{more}
use Rattle.pod_tools.proofs.pick_lines.add_picks_count.Goals as goal

pub returns : goal.returns
unfolding picks_line
returns c =
    let one = c.add.new.text.items in
    let two = c.add_number.new.text.items in
    let all = c.add-2.new.text.items in
    let number = decimal c.args.count in
    more c.args.text.now.items (codes "collected pods=") (number ++ codes "\n") one all c.in_ok-add.ensures
    (more one number (codes "\n") two all c.in_ok-add_number.ensures c.in_ok-add-2.ensures)
