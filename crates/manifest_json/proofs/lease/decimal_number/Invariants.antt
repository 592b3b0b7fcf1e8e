use Rattle.std.proofs.Common.{◌≡◌, ◌≤◌, drop}
use Rattle.manifest_json.specs.Walk.{number_onto}
use Rattle.manifest_json.proofs.lease.decimal_number.Given as goal

-- what is left decides
abbrev pub invariant-loop-byte : goal.invariant-loop-byte
invariant-loop-byte l = record {
  rest : number_onto 0 l.digits ≡ number_onto l.value (drop l.byte-index l.digits);
  small : l.value ≤ 4294967295;
}
