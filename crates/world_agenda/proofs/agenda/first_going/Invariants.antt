use Rattle.std.proofs.Common.{◌≡◌, ◌≤◌, ◌<◌, ◌+◌, ◌-◌, ℕ, false, List}
use Rattle.kube_objects.specs.Document.{Doc, end_beat}
use Rattle.kube_objects.specs.Entry.{Entry}
use Rattle.world_core.specs.Worlds.{WorldStands, end_of}
use Rattle.world_agenda.specs.Woken.{is_going}
use Rattle.world_agenda.proofs.agenda.first_going.Given as goal

abbrev pub invariant-held : goal.invariant-held
invariant-held l =
    record {
      least : l.fn.from.0 ≤ l.beat.0;
      held : (doc : Doc) (k : ℕ) (h : List Entry) → WorldStands doc k h l.world → end_of l.world ≡ end_beat doc → (j : ℕ) → l.fn.from.0 ≤ j → j < l.beat.0 → is_going doc j l.who.0 ≡ false;
    }

abbrev pub decreases-held : goal.decreases-held
decreases-held l = l.end.0 + 1 - l.beat.0
