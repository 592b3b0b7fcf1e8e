use Rattle.std.proofs.Common.{◌≡◌, ◌≤◌, All}
use Rattle.world_gen.specs.Draws.{crashes}
use Rattle.world_gen.proofs.crash.crashes.Given as goal

-- the crashes of the nodes so far
abbrev pub invariant-loop-i : goal.invariant-loop-i
invariant-loop-i l = record {
  value : l.all.items ≡ (crashes l.beats l.i l.initial.rng).value;
  rest : l.rng ≡ (crashes l.beats l.i l.initial.rng).rest;
  within : All (λ crash. crash.beat ≤ l.beats) l.all.items;
}
