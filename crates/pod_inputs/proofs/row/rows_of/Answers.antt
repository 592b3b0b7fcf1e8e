use Rattle.pod_inputs.proofs.Loops.{rows-fail, rows-step, rows-end}
use Rattle.pod_inputs.proofs.row.rows_of.Goals as goal

pub returns-in-Err : goal.returns-in-Err
returns-in-Err c = rows-fail c.loop-place.names c.loop-place.place c.args.list.now c.loop-place.rows c.loop-place.later.now _ c.loop-place.invariant c.index-list-place.result c.in-Err.fault c.loop-place-test.true c.index-list-place.is c.in-Err.ensures

pub loop-place-preserved : goal.loop-place-preserved
loop-place-preserved c = rows-step c.loop-place.names c.loop-place.place c.args.list.now c.loop-place.rows c.loop-place.later.now _ c.loop-place.invariant c.index-list-place.result c.item_row.new.names c.item_row.new.rows c.in-Ok.left.now c.loop-place-test.true c.index-list-place.is c.in-Ok.ensures

pub returns : goal.returns
returns c = rows-end c.loop-place.names c.loop-place.place c.args.list.now c.loop-place.rows c.loop-place.later.now _ c.loop-place.invariant c.loop-place-test.false
