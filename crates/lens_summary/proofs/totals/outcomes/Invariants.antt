use Rattle.std.proofs.Common.{◌≡◌, ◌++◌, map, drop}
use Rattle.std.specs.Option.{option_map}
use Rattle.trace_lines.specs.Reads.{seen}
use Rattle.lens_summary.specs.Totals as spec
use Rattle.lens_summary.proofs.totals.outcomes.Given as goal

-- those so far and those of the rest
abbrev pub invariant-loop-line : goal.invariant-loop-line
invariant-loop-line l =
    l.outcomes.items ++ spec.outcomes (option_map (λ word. word.now) l.kind) (map seen (drop l.line-index l.lines))
    ≡ spec.outcomes (option_map (λ word. word.now) l.kind) (map seen l.lines)
