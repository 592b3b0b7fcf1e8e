use Rattle.std.proofs.Common.{◌≡◌, ◌≤◌, drop}
use Rattle.trace_lines.specs.Grammar.{number_onto}
use Rattle.trace_lines.proofs.grammar.digits.Given as goal

-- what is left decides
abbrev pub invariant-loop-byte : goal.invariant-loop-byte
invariant-loop-byte l = record {
  rest : number_onto l.most 0 l.text ≡ number_onto l.most l.number (drop l.byte-index l.text);
  small : l.number ≤ l.most;
}
