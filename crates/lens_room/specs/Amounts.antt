-- Durations as they are written: amounts, each a number and a unit.
use Rattle.std.specs.Prelude.{◌≡◌, ℕ, ◌+◌, ◌*◌, ◌≤◌, List, [], ◌∷◌, ◌++◌, codes, decimal, Some}
use Rattle.lens_room.specs.Durations.{duration}

pub data Measure : Type 0 where
  hours minutes seconds millis : Measure

abbrev pub text_of : Measure → List ℕ
text_of hours = codes "h"
text_of minutes = codes "m"
text_of seconds = codes "s"
text_of millis = codes "ms"

abbrev pub millis_of : Measure → ℕ
millis_of hours = 3600000
millis_of minutes = 60000
millis_of seconds = 1000
millis_of millis = 1

-- one behind the other, as 1m30s
abbrev pub written : List (ℕ × Measure) → List ℕ
written [] = []
written (amount ∷ amounts) = decimal amount.0 ++ (text_of amount.1 ++ written amounts)

abbrev pub total_of : List (ℕ × Measure) → ℕ
total_of [] = 0
total_of (amount ∷ amounts) = amount.0 * millis_of amount.1 + total_of amounts

-- whatever amounts of at most a day are written are read as their sum
abbrev pub DurationsAreSums : Type 0
DurationsAreSums = (amounts : List (ℕ × Measure)) → total_of amounts ≤ 86400000 → duration (written amounts) ≡ Some (total_of amounts)
