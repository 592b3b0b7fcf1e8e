use Rattle.std.proofs.Common.{◌≡◌, ◌++◌, take, flat_map}
use Rattle.pod_tools.specs.Texts.{pick_line}
use Rattle.pod_tools.proofs.pick_lines.add_picks.Given as goal

abbrev pub invariant-loop-pick : goal.invariant-loop-pick
invariant-loop-pick l = l.text.items ≡ l.fn.text.items ++ flat_map (pick_line l.names l.pods) (take l.pick-index l.picks)
