-- What a shelf holds.
use Rattle.std.specs.Prelude.{ℕ, ◌==◌, nat_lt, if◌then◌else◌, List, Option, None, Some, slice_get}
use Rattle.std.specs.HashMap.{get}
use Rattle.key_map.specs.declared.shelf.Row.{Row}
use Rattle.key_map.specs.declared.shelf.Shelf.{Shelf}
use Rattle.key_map.specs.Rows.{own_row, place_of}

module _ {V : Type 0} where
  abbrev pub value_of : Option (Row V) → Option V
  value_of None = None
  value_of (Some row) = row.value

  -- the value in a row; where there is no row, another one
  abbrev pub value_in : List (Row V) → Option ℕ → Option V → Option V
  value_in rows None other = other
  value_in rows (Some row) other = value_of (slice_get rows row)

  -- what is found by hash
  abbrev pub aside : Shelf V → ℕ → ℕ → Option V
  aside shelf space name = if nat_lt name 4294967296 then get ◌==◌ shelf.others (place_of space name) else None

  -- the value under a namespace and a name, if there is one
  unfoldable pub held : Shelf V → ℕ → ℕ → Option V
  held shelf space name = value_in shelf.rows.items (own_row shelf.places.items shelf.rows.items space name) (aside shelf space name)
