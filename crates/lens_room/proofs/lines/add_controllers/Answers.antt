use Rattle.std.proofs.Common.{add-one}
use Rattle.lens_room.specs.Lines.{lines_below, line_at}
use Rattle.trace_writer.proofs.Added.{added}
use Rattle.lens_room.proofs.lines.add_controllers.Goals as goal

pub loop-controller-preserved : goal.loop-controller-preserved
loop-controller-preserved c =
    let d = c.args.document.now in
    let k = c.loop-controller.controller in
    rw add-one (added c.args.text.now.items c.loop-controller.text.items c.add_controller.new.text.items (lines_below d k) (line_at d k) c.loop-controller.invariant c.in_ok-add_controller.ensures)
