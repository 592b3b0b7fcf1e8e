use Rattle.std.proofs.Common.{◌+◌, sym, ap, ◌∙◌, arith}
use Rattle.script_reader.specs.Sets.{pods_of}
use Rattle.script_reader.proofs.SetLoops.{shares-fail, shares-step, shares-end, pods_of-push}
use Rattle.script_reader.proofs.sets.shares_of.Goals as goal

pub returns-in-Err-clause-gives : goal.returns-in-Err-clause-gives
returns-in-Err-clause-gives c = shares-fail c.loop-place.names c.args.path.now c.loop-place.place c.args.list.now c.loop-place.shares _ c.loop-place.invariant.rest c.index-list-place.result c.in-Err.fault c.loop-place-test.true c.index-list-place.is c.in-Err.ensures

pub loop-place-preserved : goal.loop-place-preserved
loop-place-preserved c = record {
  rest = shares-step c.loop-place.names c.args.path.now c.loop-place.place c.args.list.now c.loop-place.shares _ c.loop-place.invariant.rest c.index-list-place.result c.share_in.new.names c.in-Ok.share c.push.new.self c.loop-place-test.true c.index-list-place.is c.in_ok-push-in-Ok.ensures.ok c.in-Ok.ensures;
  counted = ap (λ n. c.loop-place.pods + n) c.from-pods.ensures ∙ ap (λ n. n + c.in-Ok.share.pods) c.loop-place.invariant.counted ∙ sym (pods_of-push c.loop-place.shares c.in-Ok.share) ∙ ap pods_of (sym c.in_ok-push-in-Ok.ensures.ok);
  few = omega (arith, c.loop-place.invariant.few);
  within = omega (arith, c.loop-place-test.true);
}

pub returns-clause-gives : goal.returns-clause-gives
returns-clause-gives c = shares-end c.loop-place.names c.args.path.now c.loop-place.place c.args.list.now c.loop-place.shares _ c.loop-place.invariant.rest c.loop-place-test.false
