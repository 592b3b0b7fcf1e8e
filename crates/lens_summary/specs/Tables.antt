-- The text of a table. A row is its cells' texts, and the first row of a table is its heading.
use Rattle.std.specs.Prelude.{ℕ, ◌+◌, ◌-◌, ◌++◌, ◌==◌, nat_le, Bool, max, List, [], ◌∷◌, length, map, replicate, get_or, codes, if◌then◌else◌}
use Rattle.std.specs.List.{flat_map}
use Rattle.lens_summary.specs.declared.row.Row.{Row}
use Rattle.lens_summary.specs.Cells.{cell_text}

abbrev pub Texts : Type 0
Texts = List (List ℕ)

-- what some rows show
abbrev pub shown : List Row → List Texts
shown rows = map (λ row. map cell_text row.cells.items) rows

abbrev pub greatest : List ℕ → ℕ
greatest [] = 0
greatest (n ∷ ns) = max n (greatest ns)

-- how wide a column is: as wide as its longest cell
abbrev pub width : ℕ → List Texts → ℕ
width column rows = greatest (map (λ row. length (get_or row column [])) rows)

-- the widths of all columns from one on, as many as these cells
abbrev pub widths_from : ℕ → Texts → List Texts → List ℕ
widths_from column [] rows = []
widths_from column (cell ∷ more) rows = width column rows ∷ widths_from (column + 1) more rows

-- a cell that isn't the last of its row is filled up with spaces, and three more part it from the next
abbrev pub filled : ℕ → Bool → List ℕ → List ℕ
filled width is_last cell = if is_last then cell else cell ++ replicate (width - length cell) 32 ++ codes "   "

-- the cells of a row from one on
unfoldable pub row_text : List ℕ → ℕ → Texts → List ℕ
row_text widths column [] = codes "\n"
row_text widths column (cell ∷ more) = filled (get_or widths column 0) (length more == 0) cell ++ row_text widths (column + 1) more

-- a table with no row but its heading isn't told
unfoldable pub table_text : List Texts → List ℕ
table_text rows = if nat_le (length rows) 1 then [] else flat_map (row_text (widths_from 0 (get_or rows 0 []) rows) 0) rows
