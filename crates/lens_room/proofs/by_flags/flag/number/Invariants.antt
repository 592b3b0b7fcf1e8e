use Rattle.std.proofs.Common.{◌≡◌, ◌≤◌, drop}
use Rattle.trace_lines.specs.Grammar.{number_onto}
use Rattle.lens_room.proofs.by_flags.flag.number.Given as goal

-- what is left decides
abbrev pub invariant-loop-byte : goal.invariant-loop-byte
invariant-loop-byte l = record {
  rest : number_onto 500000 0 l.digits ≡ number_onto 500000 l.number (drop l.byte-index l.digits);
  small : l.number ≤ 500000;
}
