use Rattle.std.proofs.Common.{◌≡◌, ◌++◌, map, drop}
use Rattle.trace_lines.specs.Reads.{seen}
use Rattle.lens_lateness.specs.Late.{late}
use Rattle.lens_lateness.specs.Told.{texts_of}
use Rattle.lens_lateness.proofs.late.late_evictions.Given as goal

-- those so far and those of the rest
abbrev pub invariant-loop-line : goal.invariant-loop-line
invariant-loop-line l =
    map (texts_of l.timing.document.now.settings.beat_millis) l.found.items ++ late l.timing.document.now (map seen (drop l.line-index l.lines)) ≡ late l.timing.document.now (map seen l.lines)
