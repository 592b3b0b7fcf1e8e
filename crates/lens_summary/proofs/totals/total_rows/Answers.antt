use Rattle.std.proofs.Common.{[], ◌∷◌, ◌++◌, map, ap, ◌∙◌}
use Rattle.trace_lines.specs.Reads.{seen}
use Rattle.lens_summary.specs.Cells.{cell_text}
use Rattle.lens_summary.specs.Tables.{shown}
use Rattle.lens_summary.proofs.TotalLaws.{totals-added}
use Rattle.lens_summary.proofs.totals.total_rows.Goals as goal

pub returns : goal.returns
returns c =
    totals-added (map seen c.args.lines.now) _ _ _ _ (ap shown c.new-rows.ensures.items)
    (c.in_ok-add_row.ensures ∙ ap (λ cells. shown c.new-rows.result.items ++ map cell_text cells ∷ []) c.in_ok-heading.ensures.items)
    c.in_ok-add_kinds.ensures c.in_ok-add_total.ensures
