-- The rows of a shelf, and how a name finds its row.
use Rattle.std.specs.Prelude.{ℕ, ◌+◌, ◌*◌, ◌==◌, ◌&&◌, Bool, false, if◌then◌else◌, List, Option, None, Some, slice_get}
use Rattle.key_map.specs.declared.shelf.Row.{Row}

-- a namespace and a name of 32 bits each in one number
abbrev pub place_of : ℕ → ℕ → ℕ
place_of space name = space * 4294967296 + name

abbrev pub joined : Option (Option ℕ) → Option ℕ
joined None = None
joined (Some place) = place

-- the row of a name, if it has one
abbrev pub place_in : List (Option ℕ) → ℕ → Option ℕ
place_in places name = joined (slice_get places name)

module _ {V : Type 0} where
  -- a row is for a namespace and a name
  abbrev pub is_for : Option (Row V) → ℕ → ℕ → Bool
  is_for None space name = false
  is_for (Some row) space name = (row.space == space) && (row.name == name)

  -- a row, where it is for a namespace and a name
  abbrev pub if_for : List (Row V) → Option ℕ → ℕ → ℕ → Option ℕ
  if_for rows None space name = None
  if_for rows (Some row) space name = if is_for (slice_get rows row) space name then Some row else None

  -- the row of a name, where that is for this namespace
  abbrev pub own_row : List (Option ℕ) → List (Row V) → ℕ → ℕ → Option ℕ
  own_row places rows space name = if_for rows (place_in places name) space name
