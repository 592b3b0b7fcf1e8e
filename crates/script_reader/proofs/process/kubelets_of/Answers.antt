use Rattle.std.proofs.Common.{◌∷◌, [], length, ap, arith, length-append}
use Rattle.script_reader.proofs.Loops.{kubelets-fail, kubelets-step, kubelets-end}
use Rattle.script_reader.proofs.process.kubelets_of.Goals as goal

pub returns-in-Err-clause-gives : goal.returns-in-Err-clause-gives
returns-in-Err-clause-gives c = kubelets-fail c.loop-place.names c.loop-place.place c.args.list.now c.args.settings.now c.loop-place.named.procs _ c.loop-place.invariant.rest c.index-list-place.result c.in-Err.fault c.loop-place-test.true c.index-list-place.is c.in-Err.ensures.gives

pub returns-clause-gives : goal.returns-clause-gives
returns-clause-gives c = kubelets-end c.loop-place.names c.loop-place.place c.args.list.now c.args.settings.now c.loop-place.named.procs _ c.loop-place.invariant.rest c.loop-place-test.false

pub loop-place-preserved : goal.loop-place-preserved
loop-place-preserved c = record {
  rest = kubelets-step c.loop-place.names c.loop-place.place c.args.list.now c.args.settings.now c.loop-place.named.procs _ c.loop-place.invariant.rest c.index-list-place.result c.kubelet_at.new.names c.in-Ok.kubelet c.push.new.self.procs c.loop-place-test.true c.index-list-place.is c.in_ok-push-in-Ok.ensures.procs c.in-Ok.ensures.gives;
  stands = c.in_ok-push-in-Ok.ensures.stands;
  few = omega (arith, c.loop-place.invariant.few, ap length c.in_ok-push-in-Ok.ensures.procs, length-append c.loop-place.named.procs (c.in-Ok.kubelet ∷ []));
}
