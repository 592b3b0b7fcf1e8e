use Rattle.std.proofs.Common.{arith}
use Rattle.std.proofs.lemmas.Result.{on_ok_weaker}
use Rattle.lens_summary.proofs.TableLaws.{row-step, row-end}
use Rattle.lens_summary.proofs.table.add_row.Goals as goal

pub cells-preserved : goal.cells-preserved
cells-preserved c = record {
  within = omega (arith, c.cells-test.true);
  text = row-step c.args.widths.now c.cells.column c.width_at-width.result c.args.cells.now _ c.cells.text.items c.add_filled.new.text.items _
      c.cells-test.true c.width_at-width.ensures c.in_ok-add_filled.ensures c.cells.invariant.text;
}

pub returns : goal.returns
returns c =
    on_ok_weaker c.add.result
    (λ end. row-end c.args.widths.now c.cells.column c.args.cells.now c.cells.text.items c.add.new.text.items _ (omega (arith, c.cells-test.false, c.cells.invariant.within)) end c.cells.invariant.text)
    c.add.ensures
