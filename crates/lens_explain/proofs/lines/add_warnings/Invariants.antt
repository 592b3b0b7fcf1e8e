use Rattle.std.proofs.Common.{◌≡◌, ◌++◌, drop}
use Rattle.std.specs.List.{flat_map}
use Rattle.lens_explain.specs.Warnings.{warning_text}
use Rattle.lens_explain.proofs.lines.add_warnings.Given as goal

-- the lines so far and those of the rest
abbrev pub invariant-loop-warning : goal.invariant-loop-warning
invariant-loop-warning l =
    l.text.items ++ flat_map warning_text (drop l.warning-index l.found) ≡ l.fn.text.items ++ flat_map warning_text l.found
