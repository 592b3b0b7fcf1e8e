use Rattle.std.proofs.Common.{◌≡◌, ℕ, List, ◌++◌, map, drop, Bor}
use Rattle.std.specs.List.{flat_map}
use Rattle.lens_json.specs.Parts.{members_in}
use Rattle.trace_lines.specs.Reads.{seen}
use Rattle.lens_summary.specs.Totals.{kinds}
use Rattle.lens_summary.specs.FigureTotals.{kind_objects}
use Rattle.lens_summary.proofs.figures.totals.totals_in.Given as goal

-- the objects so far and those of the rest
abbrev pub invariant-loop-word : goal.invariant-loop-word
invariant-loop-word l =
    map members_in l.objects.items ++ flat_map (kind_objects (map seen l.lines)) (map (λ (word : Bor (List ℕ)). word.now) (drop l.word-index l.word-items))
    ≡ flat_map (kind_objects (map seen l.lines)) kinds
