use Rattle.script_reader.proofs.Loops.{waits-fail, waits-step, waits-end}
use Rattle.script_reader.proofs.waits.waits_of.Goals as goal

pub returns-in-Err : goal.returns-in-Err
returns-in-Err c = waits-fail c.args.path.now c.loop-place.place c.args.list.now c.loop-place.waits _ c.loop-place.invariant c.index-list-place.result c.in-Err.fault c.loop-place-test.true c.index-list-place.is c.in-Err.ensures

pub loop-place-preserved : goal.loop-place-preserved
loop-place-preserved c = waits-step c.args.path.now c.loop-place.place c.args.list.now c.loop-place.waits _ c.loop-place.invariant c.index-list-place.result c.in-Ok.wait c.push.new.self c.loop-place-test.true c.index-list-place.is c.in_ok-push-in-Ok.ensures.ok c.in-Ok.ensures

pub returns : goal.returns
returns c = waits-end c.args.path.now c.loop-place.place c.args.list.now c.loop-place.waits _ c.loop-place.invariant c.loop-place-test.false
