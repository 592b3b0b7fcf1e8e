-- The number that C gets for how a run ended.
use Rattle.std.specs.Prelude.{ℕ}
use Rattle.run_edge.specs.declared.status.Status.{Status}
use Rattle.run_edge.specs.declared.status.Status.TheVariants.{SinkFault}
use Rattle.run_edge.specs.Exits as program

-- the exit status of the program, but that a sink in memory fails for want of memory
abbrev pub exit_status_of : Status → ℕ
exit_status_of SinkFault = 5
exit_status_of other = program.exit_status_of other
