-- The exit status of a program.
use Rattle.std.specs.Prelude.{ℕ}
use Rattle.run_edge.specs.declared.status.Status.{Status}
use Rattle.run_edge.specs.declared.status.Status.TheVariants.{Answered, SourceFault, SinkFault, OutOfMemory}
use Rattle.run_edge.specs.declared.status.Verdict.{Verdict}
use Rattle.run_edge.specs.declared.status.Verdict.TheVariants.{Done, Safe, Unsafe, Refused, Usage}

abbrev pub verdict_status : Verdict → ℕ
verdict_status Done = 0
verdict_status Safe = 0
verdict_status Unsafe = 1
verdict_status Refused = 1
verdict_status Usage = 2

-- by how the run ended
abbrev pub exit_status_of : Status → ℕ
exit_status_of (Answered verdict) = verdict_status verdict
exit_status_of SourceFault = 3
exit_status_of SinkFault = 4
exit_status_of OutOfMemory = 5
