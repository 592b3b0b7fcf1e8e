use Rattle.std.proofs.Common.{◌≡◌, ◌++◌, map, take}
use Rattle.trace_writer.specs.Names.{text_of}
use Rattle.replay_top.proofs.processes.add_controllers.Given as goal

abbrev pub invariant-loop-controller : goal.invariant-loop-controller
invariant-loop-controller l = l.processes ≡ l.fn.processes ++ map (λ p. text_of l.names p.name) (take l.controller-index l.controllers)
