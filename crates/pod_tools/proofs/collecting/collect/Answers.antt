use Rattle.pod_tools.proofs.Loops.{collect-step}
use Rattle.pod_tools.proofs.collecting.collect.Goals as goal

pub loop-place-preserved : goal.loop-place-preserved
loop-place-preserved c = collect-step c.args.input.now c.loop-place.picks c.add_pick.new.picks c.loop-place.place c.as_slice-row-items.result.now c.row-item.result c.cause_of-cause.result c.as_slice-row-items.ensures c.loop-place.invariant c.loop-place-test.true c.row-item.is c.cause_of-cause.ensures c.in_ok-add_pick.ensures
