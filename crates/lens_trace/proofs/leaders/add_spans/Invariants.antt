use Rattle.std.proofs.Common.{◌≡◌, ◌++◌, drop}
use Rattle.std.specs.List.{flat_map}
use Rattle.lens_trace.specs.Leaders.{span_line}
use Rattle.lens_trace.proofs.leaders.add_spans.Given as goal

-- the lines so far and those of the rest
abbrev pub invariant-loop-span : goal.invariant-loop-span
invariant-loop-span l = l.text.items ++ flat_map span_line (drop l.span-index l.spans) ≡ l.fn.text.items ++ flat_map span_line l.spans
