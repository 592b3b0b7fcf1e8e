use Rattle.std.proofs.Common.{◌≡◌, ◌++◌, drop}
use Rattle.std.specs.List.{flat_map}
use Rattle.trace_lines.specs.Reads.{seen}
use Rattle.lens_trace.specs.Lines.{ended, line_json}
use Rattle.lens_trace.proofs.lines.line.add_lines.Given as goal

-- the objects so far and those of the rest
abbrev pub invariant-loop-line : goal.invariant-loop-line
invariant-loop-line l =
    l.json.items ++ flat_map (λ line. ended (line_json (seen line))) (drop l.line-index l.lines)
    ≡ l.fn.json.items ++ flat_map (λ line. ended (line_json (seen line))) l.lines
