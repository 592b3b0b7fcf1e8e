use Rattle.std.proofs.Common.{◌≡◌, map, take}
use Rattle.replay_top.proofs.state.numbers_of.Given as goal

abbrev pub invariant-loop-proc : goal.invariant-loop-proc
invariant-loop-proc l = l.numbers ≡ map (λ p. p.name) (take l.proc-index l.procs)
