use Rattle.std.proofs.Common.{◌≡◌}
use Rattle.world_gen.specs.Generated.{kubelets}
use Rattle.world_gen.proofs.process.kubelets.Given as goal

abbrev pub invariant-loop-i : goal.invariant-loop-i
invariant-loop-i l = l.procs ≡ kubelets l.i
