-- A world that runs a document up to a last beat.
use Rattle.std.specs.Prelude.{◌≡◌, ℕ, ◌+◌, ◌<◌, ◌≤◌, ◌++◌, List, Option, Some, None}
use Rattle.std.specs.List.{AllByRecursion}
use Rattle.agenda_laws.specs.Ahead.{IsNextBeat}
use Rattle.agenda_laws.specs.Standing.{StandsAt, standing_below}
use Rattle.kube_objects.specs.declared.deed.Deed.{Deed}
use Rattle.kube_objects.specs.Document.{Doc, processes, end_beat}
use Rattle.kube_objects.specs.Writable.{IsWritable}
use Rattle.history.specs.History.{history}
use Rattle.history.specs.Printed.{printed as printed_of}
use Rattle.world_core.specs.declared.world.World.{World}
use Rattle.world_core.specs.Worlds.{IsReady, WasRead, WorldStands, at_of, end_of, names_of}

-- no beat after the last one was done, and the last one comes no later than the end
pub record IsGoing (last : ℕ) (w : World) : Type 0 where
  pub ready : IsReady w
  pub up_to : at_of w ≤ last + 1
  pub within : last ≤ end_of w

-- the world stands before its next beat for a document that was read, and since the count was `first` it rose by no more than one for
-- each earlier beat at which an entry stands
pub record Runs (doc : Doc) (first steps : ℕ) (w : World) : Type 0 where
  pub own : WasRead doc w
  pub end : end_of w ≡ end_beat doc
  pub stands : WorldStands doc (at_of w) (history doc (at_of w)) w
  pub counted : steps ≤ first + standing_below doc (at_of w)

-- the least beat from beat k to the last at which an entry stands; None exactly where there is no such beat
pub record IsNextUpTo (doc : Doc) (k last : ℕ) (next : Option ℕ) : Type 0 where
  pub quiet : next ≡ None → (j : ℕ) → k ≤ j → j ≤ last → ¬ StandsAt doc j
  pub there : (n : ℕ) → next ≡ Some n → (n ≤ last) × IsNextBeat doc k next

-- the world went on to a later beat, and these deeds are what is printed from the earlier one on
pub record WentOn (doc : Doc) (old new : World) (deeds : List Deed) : Type 0 where
  pub later : at_of old < at_of new
  pub printed : printed_of (history doc (at_of old)) ++ deeds ≡ printed_of (history doc (at_of new))
  pub writable : AllByRecursion (IsWritable (names_of old) (processes doc)) deeds

-- what the next beat with an entry prints; where there is none the history stays up to the last beat
abbrev pub AreNext : Doc → ℕ → World → World → Option (List Deed) → Type 0
AreNext doc last old new None = (history doc (last + 1) ≡ history doc (at_of old)) × (at_of new ≡ at_of old)
AreNext doc last old new (Some deeds) = WentOn doc old new deeds
