-- A table that is told.
use Rattle.std.specs.Prelude.{ℕ, ◌++◌, nat_le, List, [], length, codes, if◌then◌else◌}
use Rattle.lens_summary.specs.Tables.{Texts, table_text}

-- a table and an empty line, where it has a row beside its heading
unfoldable pub part : List Texts → List ℕ
part rows = table_text rows ++ (if nat_le (length rows) 1 then [] else codes "\n")
