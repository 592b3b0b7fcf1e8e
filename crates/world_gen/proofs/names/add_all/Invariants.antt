use Rattle.std.proofs.Common.{◌≡◌, ◌++◌}
use Rattle.world_gen.specs.Numbers.{short_names}
use Rattle.world_gen.proofs.names.add_all.Given as goal

abbrev pub invariant-loop-i : goal.invariant-loop-i
invariant-loop-i l = l.names ≡ l.initial.names ++ short_names l.letter l.i
