use Rattle.std.proofs.Common.{◌≡◌, ℕ, Some, length, slice_get}
use Rattle.skew_clock.specs.Clocking.{Clocking}
use Rattle.script_reader.specs.Documents.{doc_of}
use Rattle.world_process.specs.Clocked.{ClockStands}
use Rattle.lens_lateness.proofs.clocks.clocks_of.Given as goal

abbrev pub invariant-loop-process : goal.invariant-loop-process
invariant-loop-process l = record {
  count : length l.clocks.items ≡ l.process-index;
  each : (p : ℕ) (clock : Clocking) → slice_get l.clocks.items p ≡ Some clock → ClockStands (doc_of l.document) p clock;
}
