-- Whose clock an identity acts by, and the time of day that it shows.
use Rattle.std.specs.Prelude.{◌≡◌, ℕ, ◌==◌, nat_le, List, length, position, slice_get, Option, Some, None, if◌then◌else◌}
use Rattle.kube_base.specs.Names.{number_of}
use Rattle.kube_base.specs.Times.{◌>>=◌}
use Rattle.kube_objects.specs.Clocks.{wall}
use Rattle.kube_objects.specs.Document.{Doc, end_beat}
use Rattle.script_reader.specs.declared.document.Document.{Document}
use Rattle.script_reader.specs.Documents.{doc_of}
use Rattle.skew_clock.specs.Clocking.{Clocking}
use Rattle.trace_lines.specs.Grammar.{cut}
use Rattle.world_process.specs.Clocked.{ClockStands}

-- the controller of this name, which stands before the `_` of an identity, by its place among the document's
unfoldable pub controller_of : Document → List ℕ → Option ℕ
controller_of d actor = do
  parts ← cut 95 actor
  number ← number_of d.names parts.0
  position (λ process. process.name == number) d.controllers

-- the time of day at a beat, in microseconds, on the clock by which an identity acts; none where the document has no such controller, or ends
-- before the beat
unfoldable pub own_time : Document → List ℕ → ℕ → Option ℕ
own_time d actor beat = do
  p ← controller_of d actor
  if nat_le beat (end_beat (doc_of d)) then Some (wall (doc_of d) p beat) else None

-- these are the clocks of the controllers, in their order
pub record AreClocks (doc : Doc) (clocks : List Clocking) : Type 0 where
  pub count : length clocks ≡ length doc.controllers
  pub each : (p : ℕ) (clock : Clocking) → slice_get clocks p ≡ Some clock → ClockStands doc p clock
