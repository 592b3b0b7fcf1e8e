use Rattle.std.proofs.Common.{◌≡◌, ◌++◌, map, drop}
use Rattle.lens_summary.specs.Tables.{shown}
use Rattle.lens_lateness.specs.Told.{texts_of}
use Rattle.lens_lateness.proofs.table.add_found.Given as goal

-- the rows so far and those of the rest
abbrev pub invariant-loop-eviction : goal.invariant-loop-eviction
invariant-loop-eviction l =
    shown l.rows.items ++ map (texts_of l.millis) (drop l.eviction-index l.found) ≡ shown l.fn.rows.items ++ map (texts_of l.millis) l.found
