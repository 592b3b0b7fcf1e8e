use Rattle.trace_lines.specs.Reads.{seen}
use Rattle.lens_summary.specs.Tables.{shown}
use Rattle.lens_summary.specs.Subjects.{told_by}
use Rattle.lens_summary.proofs.StepLaws.{filter-step}
use Rattle.lens_summary.proofs.subject.add_lines.Goals as goal

pub loop-line-preserved : goal.loop-line-preserved
loop-line-preserved c =
    filter-step (told_by c.args.subject c.args.millis) seen c.args.lines.now c.loop-line.line-index _ (shown c.loop-line.rows.items) (shown c.add_line.new.rows.items) _
    c.loop-line-test.true c.in_ok-add_line.ensures c.loop-line.invariant
