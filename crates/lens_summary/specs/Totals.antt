-- How many lines of each kind there are, and how what they write was answered.
use Rattle.std.specs.Prelude.{ℕ, ◌++◌, ◌==◌, Bool, true, List, [], ◌∷◌, length, codes, decimal, count_by, filter_map, Option, Some, None, if◌then◌else◌}
use Rattle.std.specs.List.{flat_map}
use Rattle.std.specs.Str.{bytes_eq}
use Rattle.trace_lines.specs.declared.line.Line.{Line}
use Rattle.lens_summary.specs.Tables.{Texts}
use Rattle.lens_summary.specs.declared.outcome.Outcome.{Outcome}
use Rattle.lens_summary.specs.declared.outcome.Outcome.TheVariants.{Written, Conflict, Absent, Exists}
use Rattle.lens_summary.specs.Outcomes.{outcome_of, word_of, same}

-- a line is of the kind of this word, or it is any line
abbrev pub is_of : Option (List ℕ) → Line (List ℕ) → Bool
is_of (Some word) l = bytes_eq (word_of l.says) word
is_of None l = true

abbrev pub outcome_in : Option (List ℕ) → Line (List ℕ) → Option Outcome
outcome_in kind l = if is_of kind l then Some (outcome_of l.says) else None

-- the outcomes of the lines of a kind
unfoldable pub outcomes : Option (List ℕ) → List (Line (List ℕ)) → List Outcome
outcomes kind ls = filter_map (outcome_in kind) ls

abbrev pub is : Outcome → Outcome → Bool
is wanted outcome = same outcome wanted

-- how many there are, and how many of them were answered how
unfoldable pub count_rows : List ℕ → List Outcome → List Texts
count_rows word os =
    (word ∷ decimal (length os) ∷ decimal (count_by (is Written) os) ∷ decimal (count_by (is Conflict) os) ∷ decimal (count_by (is Absent) os)
    ∷ decimal (count_by (is Exists) os) ∷ []) ∷ []

-- a kind without lines has no row
unfoldable pub kind_rows : List (Line (List ℕ)) → List ℕ → List Texts
kind_rows ls word = if length (outcomes (Some word) ls) == 0 then [] else count_rows word (outcomes (Some word) ls)

-- the kinds, in the order in which they are told
unfoldable pub kinds : List (List ℕ)
kinds =
    codes "start" ∷ codes "crash" ∷ codes "stop" ∷ codes "end" ∷ codes "pause" ∷ codes "stall" ∷ codes "lead" ∷ codes "create-election"
    ∷ codes "update-election" ∷ codes "nodelease" ∷ codes "status" ∷ codes "put" ∷ codes "remove" ∷ codes "unknown" ∷ codes "mode" ∷ codes "zone"
    ∷ codes "taint" ∷ codes "swap" ∷ codes "untaint" ∷ codes "evict" ∷ []

unfoldable pub all_rows : List (Line (List ℕ)) → List Texts
all_rows ls = count_rows (codes "all") (outcomes None ls)

abbrev pub total_heading : Texts
total_heading = codes "KIND" ∷ codes "LINES" ∷ codes "WRITTEN" ∷ codes "CONFLICT" ∷ codes "ABSENT" ∷ codes "EXISTS" ∷ []

-- a row for each kind, and one for all lines behind the first
unfoldable pub total_rows : List (Line (List ℕ)) → List Texts
total_rows ls = total_heading ∷ (flat_map (kind_rows ls) kinds ++ all_rows ls)
