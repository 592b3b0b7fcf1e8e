use Rattle.std.proofs.Common.{◌≡◌, ◌≤◌, ◌-◌, ◌++◌, length, map, drop}
use Rattle.lens_summary.specs.Cells.{cell_text}
use Rattle.lens_summary.specs.Tables.{shown, widths_from}
use Rattle.lens_summary.proofs.table.widths.Given as goal

-- the widths so far and those of the columns from one on
abbrev pub invariant-columns : goal.invariant-columns
invariant-columns l = record {
  within : l.column ≤ length l.heading;
  widths : l.widths.items ++ widths_from l.column (map cell_text (drop l.column l.heading)) (shown l.rows)
      ≡ widths_from 0 (map cell_text l.heading) (shown l.rows);
}

abbrev pub decreases-columns : goal.decreases-columns
decreases-columns l = length l.heading - l.column
