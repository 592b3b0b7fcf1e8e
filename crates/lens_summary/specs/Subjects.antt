-- What lines tell of: the states of zones, what became of nodes, and the pods that were evicted.
use Rattle.std.specs.Prelude.{ℕ, List, [], ◌∷◌, codes, filter_map, Option}
use Rattle.lens_summary.specs.Tables.{Texts}
use Rattle.trace_lines.specs.declared.line.Line.{Line}
use Rattle.lens_summary.specs.declared.subject.Subject.{Subject}
use Rattle.lens_summary.specs.declared.subject.Subject.TheVariants.{Zones, Nodes, Pods}
use Rattle.lens_summary.specs.Nodes.{changed_by}
use Rattle.lens_summary.specs.Pods.{evicted_by}
use Rattle.lens_summary.specs.Zones.{found_by}

abbrev pub heading : Subject → Texts
heading Zones = codes "ZONE" ∷ codes "SINCE" ∷ codes "STATE" ∷ codes "RATE" ∷ codes "BY" ∷ []
heading Nodes = codes "NODE" ∷ codes "SINCE" ∷ codes "CHANGE" ∷ codes "REASON" ∷ codes "BY" ∷ []
heading Pods = codes "POD" ∷ codes "DUE" ∷ codes "EVICTED" ∷ codes "BY" ∷ []

-- the row of a line that tells of a subject, with beats of so many milliseconds
abbrev pub told_by : Subject → ℕ → Line (List ℕ) → Option Texts
told_by Zones = found_by
told_by Nodes = changed_by
told_by Pods = evicted_by

abbrev pub told : Subject → ℕ → List (Line (List ℕ)) → List Texts
told subject millis ls = filter_map (told_by subject millis) ls

unfoldable pub subject_rows : Subject → ℕ → List (Line (List ℕ)) → List Texts
subject_rows subject millis ls = heading subject ∷ told subject millis ls
