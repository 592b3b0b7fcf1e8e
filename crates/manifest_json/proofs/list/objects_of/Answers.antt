use Rattle.std.proofs.Common.{◌+◌, drop, sym, ap, ◌∙◌, arith}
use Rattle.serde_json.specs.View.{items_view}
use Rattle.manifest_json.specs.Walk.{list_from}
use Rattle.manifest_json.proofs.Loops.{list-fail, list-step, list-end}
use Rattle.manifest_json.proofs.list.objects_of.Goals as goal

pub returns-in-Err-clause-gives : goal.returns-in-Err-clause-gives
returns-in-Err-clause-gives c = list-fail c.loop-place.names c.args.path.now c.loop-place.place c.args.list.now c.loop-place.kept.scale c.args.known.now c.loop-place.kept.items c.loop-place.skipped _ c.loop-place.invariant.rest c.index-list-place.result c.in-Err.fault c.loop-place-test.true c.index-list-place.is c.in-Err.ensures.gives

pub loop-place-preserved : goal.loop-place-preserved
loop-place-preserved c = record {
  rest = list-step c.loop-place.names c.args.path.now c.loop-place.place c.args.list.now c.loop-place.kept.scale c.args.known.now c.loop-place.kept.items c.loop-place.skipped _ c.loop-place.invariant.rest c.index-list-place.result c.step_in.new.names c.step_in.new.kept.items c.in-Ok.more c.loop-place-test.true c.index-list-place.is c.in-Ok.ensures.gives
      ∙ ap (λ s. list_from s c.step_in.new.names c.args.known.now c.args.path.now (c.loop-place.place + 1) c.step_in.new.kept.items (c.loop-place.skipped + c.in-Ok.more) (items_view (drop (c.loop-place.place + 1) c.args.list.now))) (sym c.in-Ok.ensures.scale);
  stands = c.in-Ok.ensures.stands;
  scale = c.in-Ok.ensures.scale ∙ c.loop-place.invariant.scale;
  few = omega (arith, c.loop-place.invariant.few, c.in-Ok.ensures.few);
  kept = λ number text held. c.in-Ok.ensures.names number text (c.loop-place.invariant.kept number text held);
}

pub returns-clause-gives : goal.returns-clause-gives
returns-clause-gives c = list-end c.loop-place.names c.args.path.now c.loop-place.place c.args.list.now c.loop-place.kept.scale c.args.known.now c.loop-place.kept.items c.loop-place.skipped _ c.loop-place.invariant.rest c.loop-place-test.false
