use Rattle.std.proofs.Common.{◌≡◌, ◌++◌}
use Rattle.world_gen.specs.Generated.{pod_items}
use Rattle.world_gen.proofs.pod.add_pods.Given as goal

-- the Pods so far
abbrev pub invariant-loop-j : goal.invariant-loop-j
invariant-loop-j l = record {
  value : l.items ≡ l.initial.items ++ (pod_items l.nodes l.j l.initial.rng).value;
  rest : l.rng ≡ (pod_items l.nodes l.j l.initial.rng).rest;
}
