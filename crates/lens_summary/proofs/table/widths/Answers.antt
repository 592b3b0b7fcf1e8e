use Rattle.std.proofs.Common.{arith}
use Rattle.lens_summary.proofs.TableLaws.{widths-step}
use Rattle.lens_summary.specs.declared.cell.Cell.TheVariants.{Missing}
use Rattle.lens_summary.specs.Tables.{shown}
use Rattle.lens_summary.proofs.table.widths.Goals as goal

pub columns-preserved : goal.columns-preserved
columns-preserved c = record {
  within = omega (arith, c.columns-test.true);
  widths = widths-step c.columns.column _ c.args.heading.now Missing (shown c.args.rows.now) c.columns.widths.items c.push.new.self.items _
      c.columns-test.true c.in_ok-width.ensures c.in_ok-push.ensures.items c.columns.invariant.widths;
}
