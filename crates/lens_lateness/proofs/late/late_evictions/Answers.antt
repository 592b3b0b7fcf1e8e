use Rattle.std.proofs.Common.{map}
use Rattle.trace_lines.specs.Reads.{seen}
use Rattle.lens_summary.proofs.StepLaws.{filter-step}
use Rattle.lens_lateness.specs.Late.{late_by}
use Rattle.lens_lateness.specs.Told.{texts_of}
use Rattle.lens_lateness.proofs.late.late_evictions.Goals as goal

pub loop-line-preserved : goal.loop-line-preserved
loop-line-preserved c =
    let shows = map (texts_of c.args.timing.now.document.now.settings.beat_millis) in
    filter-step (late_by c.args.timing.now.document.now) seen c.args.lines.now c.loop-line.line-index _ (shows c.loop-line.found.items) (shows c.add_late.new.found.items) _
    c.loop-line-test.true c.in_ok-add_late.ensures c.loop-line.invariant
