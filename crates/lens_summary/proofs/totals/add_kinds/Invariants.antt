use Rattle.std.proofs.Common.{◌≡◌, ℕ, List, ◌++◌, map, drop, Bor}
use Rattle.std.specs.List.{flat_map}
use Rattle.lens_summary.specs.Tables.{shown}
use Rattle.trace_lines.specs.Reads.{seen}
use Rattle.lens_summary.specs.Totals.{kind_rows, kinds}
use Rattle.lens_summary.proofs.totals.add_kinds.Given as goal

-- the rows so far and those of the rest
abbrev pub invariant-loop-word : goal.invariant-loop-word
invariant-loop-word l =
    shown l.rows.items ++ flat_map (kind_rows (map seen l.lines)) (map (λ (word : Bor (List ℕ)). word.now) (drop l.word-index l.word-items))
    ≡ shown l.fn.rows.items ++ flat_map (kind_rows (map seen l.lines)) kinds
