use Rattle.manifest_json.proofs.Loops.{conditions-fail, conditions-step, conditions-end}
use Rattle.manifest_json.proofs.node.conditions_of.Goals as goal

pub returns-in-Err-clause-gives : goal.returns-in-Err-clause-gives
returns-in-Err-clause-gives c = conditions-fail c.loop-place.names c.args.path.now c.loop-place.place c.args.list.now c.loop-place.ready _ c.loop-place.invariant.rest c.index-list-place.result c.in-Err.fault c.loop-place-test.true c.index-list-place.is c.in-Err.ensures.gives

pub loop-place-preserved : goal.loop-place-preserved
loop-place-preserved c = record {
  rest = conditions-step c.loop-place.names c.args.path.now c.loop-place.place c.args.list.now c.loop-place.ready _ c.loop-place.invariant.rest c.index-list-place.result c.condition_in.new.names c.in-Ok.next c.loop-place-test.true c.index-list-place.is c.in-Ok.ensures.gives;
  kept = λ number text held. c.in-Ok.ensures.names number text (c.loop-place.invariant.kept number text held);
}

pub returns-clause-gives : goal.returns-clause-gives
returns-clause-gives c = conditions-end c.loop-place.names c.args.path.now c.loop-place.place c.args.list.now c.loop-place.ready _ c.loop-place.invariant.rest c.loop-place-test.false
