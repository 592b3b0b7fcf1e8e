use Rattle.std.proofs.Common.{◌≡◌, ◌++◌, map, drop}
use Rattle.std.specs.List.{flat_map}
use Rattle.lens_explain.specs.Slips.{slip_of, slip_text}
use Rattle.lens_explain.proofs.lines.add_slips.Given as goal

-- the lines so far and those of the rest
abbrev pub invariant-loop-slip : goal.invariant-loop-slip
invariant-loop-slip l =
    l.text.items ++ flat_map slip_text (map slip_of (drop l.slip-index l.slips)) ≡ l.fn.text.items ++ flat_map slip_text (map slip_of l.slips)
