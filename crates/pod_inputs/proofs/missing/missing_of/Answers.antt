use Rattle.pod_inputs.proofs.Loops.{missing-fail, missing-step, missing-end}
use Rattle.pod_inputs.proofs.missing.missing_of.Goals as goal

pub returns-in-Err : goal.returns-in-Err
returns-in-Err c = missing-fail c.loop-place.names c.loop-place.place c.args.list.now c.loop-place.missing _ c.loop-place.invariant c.index-list-place.result c.in-Err.fault c.loop-place-test.true c.index-list-place.is c.in-Err.ensures

pub loop-place-preserved : goal.loop-place-preserved
loop-place-preserved c = missing-step c.loop-place.names c.loop-place.place c.args.list.now c.loop-place.missing _ c.loop-place.invariant c.index-list-place.result c.missing_at.new.names c.in-Ok.row c.push.new.self c.loop-place-test.true c.index-list-place.is c.in_ok-push-in-Ok.ensures.ok c.in-Ok.ensures

pub returns : goal.returns
returns c = missing-end c.loop-place.names c.loop-place.place c.args.list.now c.loop-place.missing _ c.loop-place.invariant c.loop-place-test.false
