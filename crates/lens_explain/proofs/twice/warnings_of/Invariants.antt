use Rattle.std.proofs.Common.{take}
use Rattle.std.specs.List.{AllZip}
use Rattle.lens_explain.specs.Warnings.{IsWarning}
use Rattle.lens_explain.proofs.twice.warnings_of.Given as goal

-- each so far is of one of the keys
abbrev pub invariant-loop-twice : goal.invariant-loop-twice
invariant-loop-twice l = AllZip (IsWarning l.input) (take l.twice-index l.found) l.warnings.items
