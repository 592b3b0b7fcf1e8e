-- How many lines of each kind there are, and how what they write was answered, as `summary` counts them.
use Rattle.std.specs.Prelude.{ℕ, ◌++◌, ◌==◌, List, [], ◌∷◌, length, codes, count_by, Some, None, if◌then◌else◌}
use Rattle.std.specs.List.{flat_map}
use Rattle.lens_json.specs.Members.{Named, nat, text}
use Rattle.lens_summary.specs.declared.outcome.Outcome.{Outcome}
use Rattle.lens_summary.specs.declared.outcome.Outcome.TheVariants.{Written, Conflict, Absent, Exists}
use Rattle.lens_summary.specs.Totals.{is, kinds, outcomes}
use Rattle.trace_lines.specs.declared.line.Line.{Line}

-- how many there are, and how many of them were answered how
abbrev pub count_members : List ℕ → List Outcome → List Named
count_members word os =
    text (codes "kind") word ∷ nat (codes "lines") (length os) ∷ nat (codes "written") (count_by (is Written) os)
    ∷ nat (codes "conflict") (count_by (is Conflict) os) ∷ nat (codes "absent") (count_by (is Absent) os)
    ∷ nat (codes "exists") (count_by (is Exists) os) ∷ []

-- a kind without lines has no object
unfoldable pub kind_objects : List (Line (List ℕ)) → List ℕ → List (List Named)
kind_objects ls word = if length (outcomes (Some word) ls) == 0 then [] else count_members word (outcomes (Some word) ls) ∷ []

-- an object for each kind, and one for all lines behind the first
abbrev pub totals : List (Line (List ℕ)) → List (List Named)
totals ls = flat_map (kind_objects ls) kinds ++ count_members (codes "all") (outcomes None ls) ∷ []
