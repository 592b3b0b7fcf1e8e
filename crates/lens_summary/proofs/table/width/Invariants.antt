use Rattle.std.proofs.Common.{◌≡◌, max, drop}
use Rattle.lens_summary.specs.Tables.{shown, width}
use Rattle.lens_summary.proofs.table.width.Given as goal

-- the widest so far and that of the rest
abbrev pub invariant-loop-row : goal.invariant-loop-row
invariant-loop-row l = max l.widest (width l.column (shown (drop l.row-index l.rows))) ≡ width l.column (shown l.rows)
