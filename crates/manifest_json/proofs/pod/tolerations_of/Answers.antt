use Rattle.manifest_json.proofs.Loops.{tolerations-fail, tolerations-step, tolerations-end}
use Rattle.manifest_json.proofs.pod.tolerations_of.Goals as goal

pub returns-in-Err-clause-gives : goal.returns-in-Err-clause-gives
returns-in-Err-clause-gives c = tolerations-fail c.loop-place.names c.args.path.now c.loop-place.place c.args.list.now c.args.key.now c.loop-place.tolerations _ c.loop-place.invariant.rest c.index-list-place.result c.in-Err.fault c.loop-place-test.true c.index-list-place.is c.in-Err.ensures.gives

pub loop-place-preserved : goal.loop-place-preserved
loop-place-preserved c = record {
  rest = tolerations-step c.loop-place.names c.args.path.now c.loop-place.place c.args.list.now c.args.key.now c.loop-place.tolerations _ c.loop-place.invariant.rest c.index-list-place.result c.toleration_in.new.names c.in-Ok.toleration c.push.new.self c.loop-place-test.true c.index-list-place.is c.in_ok-push-in-Ok.ensures.ok c.in-Ok.ensures.gives;
  kept = λ number text held. c.in-Ok.ensures.names number text (c.loop-place.invariant.kept number text held);
}

pub returns-clause-gives : goal.returns-clause-gives
returns-clause-gives c = tolerations-end c.loop-place.names c.args.path.now c.loop-place.place c.args.list.now c.args.key.now c.loop-place.tolerations _ c.loop-place.invariant.rest c.loop-place-test.false
