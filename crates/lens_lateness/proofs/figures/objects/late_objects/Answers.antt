use Rattle.std.proofs.Common.{map}
use Rattle.lens_json.specs.Parts.{members_in}
use Rattle.trace_lines.specs.Reads.{seen}
use Rattle.lens_summary.proofs.StepLaws.{filter-step}
use Rattle.lens_lateness.specs.Figures.{late_by}
use Rattle.lens_lateness.proofs.figures.objects.late_objects.Goals as goal

pub loop-line-preserved : goal.loop-line-preserved
loop-line-preserved c =
    filter-step (late_by c.args.timing.now.document.now) seen c.args.lines.now c.loop-line.line-index _ (map members_in c.loop-line.objects.items) (map members_in c.add_late.new.objects.items) _
    c.loop-line-test.true c.in_ok-add_late.ensures c.loop-line.invariant
