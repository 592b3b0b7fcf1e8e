use Rattle.std.proofs.Common.{map}
use Rattle.lens_json.specs.Parts.{members_in}
use Rattle.trace_lines.specs.Reads.{seen}
use Rattle.lens_summary.specs.FigureLines.{told_by}
use Rattle.lens_summary.proofs.StepLaws.{filter-step}
use Rattle.lens_summary.proofs.figures.lines.objects_in.Goals as goal

pub loop-line-preserved : goal.loop-line-preserved
loop-line-preserved c =
    filter-step (told_by c.args.subject) seen c.args.lines.now c.loop-line.line-index _ (map members_in c.loop-line.objects.items) (map members_in c.add_line.new.objects.items) _
    c.loop-line-test.true c.in_ok-add_line.ensures c.loop-line.invariant
