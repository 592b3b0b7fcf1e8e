use Rattle.std.proofs.Common.{◌≡◌, ◌≤◌, ◌-◌, List}
use Rattle.kube_objects.specs.Document.{Doc, end_beat}
use Rattle.kube_objects.specs.Entry.{Entry}
use Rattle.agenda_laws.specs.Ahead.{IsNextBelow}
use Rattle.world_core.specs.Waits.{beat_of}
use Rattle.world_core.specs.Worlds.{WorldStands, count_of, end_of}
use Rattle.world_agenda.specs.Woken.{OnlyTurns}
use Rattle.world_agenda.proofs.agenda.with_others.Given as goal

abbrev pub invariant-others : goal.invariant-others
invariant-others l =
    record {
      least : l.fn.from ≤ l.from;
      below : (doc : Doc) (h : List Entry) → WorldStands doc l.at.0 h l.world → end_of l.world ≡ end_beat doc → OnlyTurns doc l.at.0 l.fn.from → IsNextBelow doc l.at.0 l.fn.from h (beat_of l.fn.next)
          → IsNextBelow doc l.at.0 l.from h (beat_of l.next);
    }

abbrev pub decreases-others : goal.decreases-others
decreases-others l = count_of l.world - l.from
