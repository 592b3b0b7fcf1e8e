use Rattle.std.proofs.Common.{◌≡◌, ◌≤◌, ◌-◌, ◌++◌, length, map, drop}
use Rattle.lens_summary.specs.Cells.{cell_text}
use Rattle.lens_summary.specs.Tables.{row_text}
use Rattle.lens_summary.proofs.table.add_row.Given as goal

-- the cells so far and those from the column on
abbrev pub invariant-cells : goal.invariant-cells
invariant-cells l = record {
  within : l.column ≤ length l.cells;
  text : l.text.items ++ row_text l.widths l.column (map cell_text (drop l.column l.cells))
      ≡ l.fn.text.items ++ row_text l.widths 0 (map cell_text l.cells);
}

abbrev pub decreases-cells : goal.decreases-cells
decreases-cells l = length l.cells - l.column
