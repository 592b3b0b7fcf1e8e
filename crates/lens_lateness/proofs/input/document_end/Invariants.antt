use Rattle.std.proofs.Common.{◌≡◌, ◌≤◌, ◌+◌, ◌-◌, true, length, drop}
use Rattle.lens_lateness.specs.Input as spec
use Rattle.lens_lateness.proofs.input.document_end.Given as goal

-- the bytes so far, and those of the rest that stand before the trace
abbrev pub invariant-bytes : goal.invariant-bytes
invariant-bytes l = record {
  within : l.end ≤ length l.input;
  rest : spec.document_end l.is_line_start (drop l.end l.input) + l.end ≡ spec.document_end true l.input;
}

abbrev pub decreases-bytes : goal.decreases-bytes
decreases-bytes l = length l.input - l.end
