use Rattle.std.proofs.Common.{◌∷◌, [], length, ap, arith, length-append}
use Rattle.script_reader.proofs.Loops.{controllers-fail, controllers-step, controllers-end}
use Rattle.script_reader.proofs.process.controllers_of.Goals as goal

pub returns-in-Err-clause-gives : goal.returns-in-Err-clause-gives
returns-in-Err-clause-gives c = controllers-fail c.loop-place.names c.loop-place.place c.args.list.now c.args.version c.args.settings.now c.args.preset c.loop-place.named.procs c.loop-place.waits _ c.loop-place.invariant.rest c.index-list-place.result c.in-Err.fault c.loop-place-test.true c.index-list-place.is c.in-Err.ensures.gives

pub returns-clause-gives : goal.returns-clause-gives
returns-clause-gives c = controllers-end c.loop-place.names c.loop-place.place c.args.list.now c.args.version c.args.settings.now c.args.preset c.loop-place.named.procs c.loop-place.waits _ c.loop-place.invariant.rest c.loop-place-test.false

pub loop-place-preserved : goal.loop-place-preserved
loop-place-preserved c = record {
  rest = controllers-step c.loop-place.names c.loop-place.place c.args.list.now c.args.version c.args.settings.now c.args.preset c.loop-place.named.procs c.loop-place.waits _ c.loop-place.invariant.rest c.index-list-place.result c.controller_in.new.names c.in-Ok.controller c.push.new.self.procs c.push-in-Ok.new.self c.loop-place-test.true c.index-list-place.is c.in_ok-push-in-Ok.ensures.procs c.in_ok-push-in-Ok-2.ensures.ok c.in-Ok.ensures.gives;
  stands = c.in_ok-push-in-Ok.ensures.stands;
  few = omega (arith, c.loop-place.invariant.few, ap length c.in_ok-push-in-Ok.ensures.procs, length-append c.loop-place.named.procs (c.in-Ok.controller.0 ∷ []));
}
