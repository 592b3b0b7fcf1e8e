use Rattle.std.proofs.Common.{◌≡◌, drop}
use Rattle.trace_lines.specs.Grammar as spec
use Rattle.trace_lines.proofs.grammar.is_name_rest.Given as goal

-- what is left decides
abbrev pub invariant-loop-byte : goal.invariant-loop-byte
invariant-loop-byte l = spec.is_name_rest l.first l.rest ≡ spec.is_name_rest l.last (drop l.byte-index l.rest)
