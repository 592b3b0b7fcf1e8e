use Rattle.std.proofs.Common.{◌≡◌, ◌++◌, replicate}
use Rattle.script_reader.proofs.sets.add_nodes.Given as goal

-- so many so far
abbrev pub invariant-loop : goal.invariant-loop
invariant-loop l = l.nodes ≡ l.fn.nodes ++ replicate l.counter l.node
