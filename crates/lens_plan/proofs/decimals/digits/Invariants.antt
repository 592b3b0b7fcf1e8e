use Rattle.std.proofs.Common.{◌≡◌, ◌≤◌, drop}
use Rattle.trace_lines.specs.Grammar.{number_onto}
use Rattle.lens_plan.proofs.decimals.digits.Given as goal

-- what is left decides
abbrev pub invariant-loop-byte : goal.invariant-loop-byte
invariant-loop-byte l = record {
  rest : number_onto 100 0 l.text ≡ number_onto 100 l.number (drop l.byte-index l.text);
  small : l.number ≤ 100;
}
