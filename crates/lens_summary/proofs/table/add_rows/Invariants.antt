use Rattle.std.proofs.Common.{◌≡◌, ◌++◌, drop}
use Rattle.std.specs.List.{flat_map}
use Rattle.lens_summary.specs.Tables.{row_text, shown}
use Rattle.lens_summary.proofs.table.add_rows.Given as goal

-- the rows so far and those of the rest
abbrev pub invariant-loop-row : goal.invariant-loop-row
invariant-loop-row l =
    l.text.items ++ flat_map (row_text l.widths 0) (shown (drop l.row-index l.rows))
    ≡ l.fn.text.items ++ flat_map (row_text l.widths 0) (shown l.rows)
