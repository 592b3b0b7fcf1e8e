use Rattle.std.proofs.Common.{◌≡◌, ◌++◌, map, drop}
use Rattle.lens_summary.specs.Tables.{shown}
use Rattle.lens_terms.specs.Terms as terms
use Rattle.lens_summary.specs.Leaders.{term_row}
use Rattle.lens_summary.proofs.leaders.add_terms.Given as goal

-- the rows so far and those of the rest
abbrev pub invariant-loop-term : goal.invariant-loop-term
invariant-loop-term l =
    shown l.rows.items ++ map (term_row l.millis l.stop) (map terms.shown (drop l.term-index l.found))
    ≡ shown l.fn.rows.items ++ map (term_row l.millis l.stop) (map terms.shown l.found)
