use Rattle.std.proofs.Common.{◌≡◌, drop}
use Rattle.lens_bounds.specs.Documents.{with_processes}
use Rattle.lens_bounds.proofs.reach.with_processes.Given as goal

-- what is left decides
abbrev pub invariant-loop-process : goal.invariant-loop-process
invariant-loop-process l = with_processes l.processes l.fn.first ≡ with_processes (drop l.process-index l.processes) l.reach
