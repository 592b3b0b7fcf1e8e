-- Places in a text, as a person counts them.
use Rattle.std.specs.Prelude.{◌≡◌, ℕ, ◌+◌, ◌==◌, Bool, true, false, List, ◌++◌, length, take, drop, reverse, position, count_by, codes, decimal, IfOk}
use Rattle.std.specs.Option.{unwrap_or}
use Rattle.lens_explain.specs.declared.place.Shown.{Shown}
use Rattle.lens_explain.specs.Fronts.{IsStop}
use Rattle.lens_explain.specs.Odd.{odd_place}
use Rattle.lens_explain.specs.Ways.{led}
use Rattle.script_reader.specs.Walk.{data_of}

-- the line in which these bytes end: how many line feeds they have, and one more
abbrev pub line_of : List ℕ → ℕ
line_of front = count_by (λ byte. byte == 10) front + 1

-- the column behind these bytes: how many stand behind the last line feed, and one more
abbrev pub column_of : List ℕ → ℕ
column_of front = unwrap_or (position (λ byte. byte == 10) (reverse front)) (length front) + 1

-- the line on a place: its line and column, and what is shown there
unfoldable pub shown_text : Shown → List ℕ
shown_text s = codes "line " ++ decimal s.line ++ codes ", column " ++ decimal s.column ++ codes ": " ++ s.text.now ++ codes "\n"

-- this is shown of a place of the input: its line and column, and a beginning of what stands there
abbrev pub IsShown : List ℕ → ℕ → Shown → Type 0
IsShown input place s =
    (s.line ≡ line_of (take place input)) × (s.column ≡ column_of (take place input)) × ((rest : List ℕ) × (s.text.now ++ rest ≡ drop place input))

-- ---- the place of a refusal

-- of an input that isn't JSON (1) it is where that stops to be JSON; of a key that isn't known (3) that of the first one of the object at the path that
-- isn't known there; else it is where the path leads
abbrev pub IsPlaceBy : Bool → Bool → List ℕ → List ℕ → ℕ → Type 0
IsPlaceBy true is_key input path place = IsStop input place
IsPlaceBy false true input path place = IfOk (data_of input) (λ d. place ≡ odd_place d input path)
IsPlaceBy false false input path place = place ≡ (led path input).place

abbrev pub IsPlace : List ℕ → ℕ → List ℕ → ℕ → Type 0
IsPlace input code path place = IsPlaceBy (code == 1) (code == 3) input path place

-- this is shown of a refusal
abbrev pub IsShownOf : List ℕ → ℕ → List ℕ → Shown → Type 0
IsShownOf input code path s = (place : ℕ) × IsPlace input code path place × IsShown input place s
