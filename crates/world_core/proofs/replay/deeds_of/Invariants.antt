use Rattle.std.proofs.Common.{◌≡◌, ◌+◌, ◌-◌, ◌≤◌}
use Rattle.history.specs.History.{history}
use Rattle.history.specs.Printed.{printed}
use Rattle.script_reader.specs.Documents.{doc_of}
use Rattle.world_core.specs.Worlds.{at_of, end_of, IsReady, WorldStands}
use Rattle.world_core.proofs.replay.deeds_of.Given as goal

abbrev pub invariant-beats : goal.invariant-beats
invariant-beats g l =
    record {
      ready : IsReady l.world;
      end : end_of l.world ≡ l.fn.document.settings.end_beat.0;
      within : at_of l.world ≤ end_of l.world + 1;
      stands : WorldStands (doc_of l.fn.document) (at_of l.world) (history (doc_of l.fn.document) (at_of l.world)) l.world;
      told : l.deeds ≡ printed (history (doc_of l.fn.document) (at_of l.world));
    }

abbrev pub decreases-beats : goal.decreases-beats
decreases-beats g l = end_of l.world + 1 - at_of l.world
