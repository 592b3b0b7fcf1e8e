use Rattle.std.proofs.Common.{◌≡◌}
use Rattle.kube_objects.specs.Document.{Doc, end_beat}
use Rattle.history.specs.History.{history}
use Rattle.script_reader.specs.Lawful.{AreLawfulFrom}
use Rattle.world_core.specs.Worlds.{WorldStands, at_of, end_of}
use Rattle.world_agenda.specs.Woken.{IsLooked}
use Rattle.world_agenda.proofs.agenda.next_beat.Given as goal

abbrev pub invariant-loop-i : goal.invariant-loop-i
invariant-loop-i l =
    (doc : Doc) → AreLawfulFrom doc 0 doc.events → WorldStands doc (at_of l.world) (history doc (at_of l.world)) l.world → end_of l.world ≡ end_beat doc
    → IsLooked doc (at_of l.world) l.i (history doc (at_of l.world)) l.next
